use Rattle.std.proofs.Common.{◌≡◌, ◌*◌, ◌≤◌, take, refl, ap, ◌∙◌, subst, arith}
use Rattle.std.proofs.lemmas.Nat.{mul-le}
use Rattle.std.proofs.lemmas.Bool.{both_ways}
use Rattle.node_check.specs.Answers.{graph as graph_of}
use Rattle.node_check.proofs.Typings.{inside_member}
use Rattle.shapes.proofs.Leaning.{bounded_closed}
use Rattle.ledger.specs.Steps.{SweepStep, ones}
use Rattle.schema.specs.Accepted.{meaning}
use Rattle.validate.proofs.Keeping.{keeps_none}
use Rattle.validator.specs.Marks.{Written}
use Rattle.validator.proofs.Places.{cells}
use Rattle.validator.proofs.Sweeping.{sweep_step, sweep_sound}
use Rattle.validator.proofs.calls.ValidatorValidate.sweep.Goals as goal

pub returns-then-strata-labels : goal.returns-then-strata-labels
returns-then-strata-labels g c = record { step = λ σ stratified sound. SweepStep.few_strata (omega (arith, c.label_count-labels.ensures)); kept = keeps_none _ }

pub returns-then-not-stratifies : goal.returns-then-not-stratifies
returns-then-not-stratifies g c =
    record { step = λ σ stratified sound. SweepStep.no_strata (omega (arith, c.label_count-labels.ensures)) (λ p. both_ways _ c.if-not-stratifies.true (c.stratifies.ensures.1 p)); kept = keeps_none _ }

pub returns-then-table-size : goal.returns-then-table-size
returns-then-table-size g c =
    let N = g.S.Store.nodes c.args.self.now.store in
    let L = (meaning c.args.self.now.schema).labels in
    let size : c.from.result * c.label_count-labels.result ≡ N * L = cells _ _ _ _ (c.from.ensures ∙ c.node_count.ensures) c.label_count-labels.ensures in
    record { step = λ σ stratified sound. SweepStep.short_table (omega (arith, c.label_count-labels.ensures)) (c.stratifies.ensures.0 c.if-not-stratifies.false) (omega (arith, size)); kept = keeps_none _ }

pub write_table-requires : goal.write_table-requires
write_table-requires g c =
    let N = g.S.Store.nodes c.args.self.now.store in
    let L = (meaning c.args.self.now.schema).labels in
    let size : c.from.result * c.label_count-labels.result ≡ N * L = cells _ _ _ _ (c.from.ensures ∙ c.node_count.ensures) c.label_count-labels.ensures in
    record { verdicts_long = omega (arith, size, mul-le N L 256 32 c.lawful-2.ensures.small c.lawful.ensures.rows.few_labels); table_long = omega arith }

pub returns : goal.returns
returns g c =
    let v = c.args.self.now in
    let S = meaning v.schema in
    let N = g.S.Store.nodes v.store in
    let C = g.S.Store.capacity v.store in
    let A = g.S.Store.arcs v.store in
    let literals = g.V.ValueTest.literals v.values in
    let passes = g.V.ValueTest.passes v.values in
    let held = c.decide_all.new.self.held in
    let verdicts = c.decide_all.new.self.verdicts in
    let table = c.write_table.new.table in
    let size : c.from.result * c.label_count-labels.result ≡ N * S.labels = cells _ _ _ _ (c.from.ensures ∙ c.node_count.ensures) c.label_count-labels.ensures in
    let written = subst (λ m. Written m verdicts c.args.table.now table) size c.write_table.ensures.after in
    let counted = subst (λ m. c.write_table.result ≡ ones (take m table)) size c.write_table.ensures.value in
    let bounded = bounded_closed S (graph_of N A passes) (record { few = c.lawful.ensures.rows.few_labels; known = c.lawful.ensures.rows.known }) (λ n p o h m. inside_member N (A n) p o (c.lawful-2.ensures.within n) m) in
    record {
      step = λ σ stratified sound.
          sweep_step S N C A literals passes v.memory.held v.memory.verdicts held verdicts c.decide_all.ensures σ stratified sound c.args.table.now table c.write_table.auto.table written
          c.args.strata.now c.write_table.result (omega (arith, c.label_count-labels.ensures)) (c.stratifies.ensures.0 c.if-not-stratifies.false) (omega (arith, size)) counted;
      kept = record { schema = refl; sound = λ σ stratified sound. sweep_sound S N C A literals passes v.memory.held v.memory.verdicts held verdicts c.decide_all.ensures σ stratified sound bounded };
    }
