use Rattle.std.proofs.Common.{refl}
use Rattle.std.proofs.lemmas.Result.{err_from_is_err_and}
use Rattle.ledger.specs.Steps.{LookStep}
use Rattle.schema.specs.Accepted.{meaning}
use Rattle.validate.proofs.Keeping.{keeps_none}
use Rattle.validator.proofs.Looking.{look_step, look_sound}
use Rattle.validator.proofs.calls.ValidatorValidate.look.Goals as goal

pub returns-in_err-place : goal.returns-in_err-place
returns-in_err-place g c =
    let p = err_from_is_err_and c.from_residual.result c.from_residual.ensures.1 in
    rw (p.1, p.2) (record { step = λ σ stratified sound. LookStep.refused c.in_err-place.ensures; kept = keeps_none _ })

pub returns : goal.returns
returns g c =
    let v = c.args.self.now in
    let at = c.in_ok-place.ensures in
    let S = meaning v.schema in
    let N = g.S.Store.nodes v.store in
    let C = g.S.Store.capacity v.store in
    let A = g.S.Store.arcs v.store in
    let literals = g.V.ValueTest.literals v.values in
    let passes = g.V.ValueTest.passes v.values in
    let held = c.decide_reached.new.self.held in
    let verdicts = c.decide_reached.new.self.verdicts in
    record {
      step = look_step S N C A literals passes v.memory.held v.memory.verdicts c.args.node c.args.label c.in_ok-place.place at.0 at.1 at.2 held verdicts c.decide_reached.ensures;
      kept = record { schema = refl; sound = look_sound S N C A literals passes v.memory.held v.memory.verdicts c.args.node c.args.label c.in_ok-place.place at.0 at.1 at.2 held verdicts c.decide_reached.ensures };
    }
