use Rattle.std.proofs.Common.{◌≡◌, ℕ, ◌*◌, ◌<◌, cond, eqb, get_or, ap, ◌∙◌, subst}
use Rattle.node_check.specs.Answers.{graph}
use Rattle.node_check.proofs.Typings.{inside_member}
use Rattle.shapes.specs.Bytes.{byte_typing}
use Rattle.shapes.proofs.Leaning.{bounded_closed}
use Rattle.schema.specs.Accepted.{meaning}
use Rattle.validator.proofs.Places.{cells}
use Rattle.validator.proofs.Widening.{joined_shown, all_decided}
use Rattle.validator.proofs.memory.Memory.decide_all.Goals as goal

pub returns : goal.returns
returns g c =
    let S = meaning c.args.schema.now in
    let N = g.S.Store.nodes c.args.store.now in
    let G = graph N (g.S.Store.arcs c.args.store.now) (g.V.ValueTest.passes c.args.values.now) in
    let held = c.args.self.now.held in
    let wanted = c.want_unheld.new.wanted in
    let size : c.from.result * c.label_count.result ≡ N * S.labels = cells _ _ _ _ (c.from.ensures ∙ c.node_count.ensures) c.label_count.ensures in
    let unheld = subst (λ m. (k : ℕ) → k < m → get_or wanted k 0 ≡ cond (eqb (get_or held k 0) 1) 0 1) size c.want_unheld.ensures in
    all_decided S G held wanted (byte_typing N S.labels c.args.self.now.verdicts) (byte_typing N S.labels c.decide_wanted.new.self.held) (byte_typing N S.labels c.decide_wanted.new.self.verdicts)
    unheld (joined_shown N S.labels wanted held c.decide_wanted.new.self.held c.decide_wanted.ensures.change)
    (bounded_closed S G (record { few = c.lawful.ensures.rows.few_labels; known = c.lawful.ensures.rows.known }) (λ n p o h m. inside_member N (G.arcs n) p o (c.lawful-2.ensures.within n) m))
    c.decide_wanted.ensures.value
