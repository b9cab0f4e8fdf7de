use Rattle.std.proofs.Common.{◌≡◌, ◌*◌, ◌≤◌, ◌∙◌, subst, arith}
use Rattle.std.proofs.lemmas.Nat.{mul-le}
use Rattle.schema.specs.Accepted.{meaning}
use Rattle.validator.specs.Marks.{Joined}
use Rattle.validator.proofs.Places.{cells}
use Rattle.validator.proofs.memory.Memory.decide_wanted.Goals as goal

pub hold-requires : goal.hold-requires
hold-requires g c =
    let S = meaning c.args.schema.now in
    let N = g.S.Store.nodes c.args.store.now in
    let size : c.from.result * c.label_count.result ≡ N * S.labels = cells _ _ _ _ (c.from.ensures ∙ c.node_count.ensures) c.label_count.ensures in
    let pairs : N * S.labels ≤ 8192 = mul-le N S.labels 256 32 c.lawful-2.ensures.small c.lawful.ensures.rows.few_labels in
    record { wanted_long = omega arith; held_long = omega arith }

pub returns : goal.returns
returns g c =
    record {
      change = subst (λ m. Joined m c.args.self.now.wanted c.args.self.now.held c.hold.new.held) (cells _ _ _ _ (c.from.ensures ∙ c.node_count.ensures) c.label_count.ensures) c.hold.ensures;
      value = c.widen.ensures;
    }
