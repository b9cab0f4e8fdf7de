use Rattle.std.proofs.Common.{◌≡◌, ◌*◌, ◌≤◌, length, None, refl, ◌∙◌, subst, arith}
use Rattle.std.proofs.lemmas.Nat.{mul-le}
use Rattle.std.proofs.lemmas.Bool.{le-ltb}
use Rattle.node_check.specs.Answers.{graph}
use Rattle.draft.specs.Refusals.{refusal}
use Rattle.draft.specs.Tables.{schema_of}
use Rattle.refine.specs.Deciding.{Room, Decided}
use Rattle.schema.specs.Accepted.{meaning}
use Rattle.validator.proofs.Widening.{answered, widens}
use Rattle.validator.proofs.decide.widen.Goals as goal

pub returns : goal.returns
returns g c =
    let S = meaning c.args.schema.now in
    let G = graph (g.S.Store.nodes c.args.store.now) (g.S.Store.arcs c.args.store.now) (g.V.ValueTest.passes c.args.values.now) in
    let strata = c.strata.new.bytes in
    let few : S.labels ≤ 32 = c.lawful.ensures.rows.few_labels in
    let pairs : G.nodes * S.labels ≤ 8192 = mul-le G.nodes S.labels 256 32 c.lawful-2.ensures.small few in
    let long : length strata ≡ 32 = omega arith in
    let fine : refusal c.strata.result ≡ None = c.strata.ensures.answer ∙ rw (le-ltb 32 S.labels few) refl in
    let stratified = answered c.strata.result fine c.strata.ensures.after in
    let decided = subst (λ t. Decided (schema_of t) G strata c.args.held.now c.args.wanted.now c.args.verdicts.now c.decide.new.typing) c.tables.ensures c.decide.ensures.value in
    let room : Room (G.nodes * S.labels) S.labels strata c.args.held.now c.args.wanted.now c.args.verdicts.now = record { strata_long = omega arith; held_long = omega arith; wanted_long = omega arith; typing_long = omega arith } in
    widens S G strata c.args.held.now c.args.wanted.now c.args.verdicts.now c.decide.new.typing stratified room decided
