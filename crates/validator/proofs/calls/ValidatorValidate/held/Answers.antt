use Rattle.std.proofs.lemmas.Result.{err_from_is_err_and}
use Rattle.ledger.specs.Steps.{HeldStep}
use Rattle.schema.specs.Accepted.{meaning}
use Rattle.validator.proofs.Looking.{held_step, not_held_step}
use Rattle.validator.proofs.calls.ValidatorValidate.held.Goals as goal

pub returns-in_err-place : goal.returns-in_err-place
returns-in_err-place g c =
    let p = err_from_is_err_and c.from_residual.result c.from_residual.ensures.1 in
    rw (p.1, p.2) (record { step = λ σ stratified sound. HeldStep.refused c.in_err-place.ensures })

pub returns-then-self-place-eq1 : goal.returns-then-self-place-eq1
returns-then-self-place-eq1 g c =
    let v = c.args.self.now in
    let at = c.in_ok-place.ensures in
    record {
      step = λ σ stratified sound.
          held_step (meaning v.schema) (g.S.Store.nodes v.store) (g.S.Store.capacity v.store) (g.S.Store.arcs v.store) (g.V.ValueTest.literals v.values) (g.V.ValueTest.passes v.values) v.memory.held v.memory.verdicts
          c.args.node c.args.label c.in_ok-place.place at.0 at.1 at.2 σ sound c.if-self-place-eq1.true;
    }

pub returns-else-self-place-eq1 : goal.returns-else-self-place-eq1
returns-else-self-place-eq1 g c =
    let v = c.args.self.now in
    let at = c.in_ok-place.ensures in
    record {
      step = λ σ stratified sound.
          not_held_step (meaning v.schema) (g.S.Store.nodes v.store) (g.S.Store.capacity v.store) (g.S.Store.arcs v.store) (g.V.ValueTest.literals v.values) (g.V.ValueTest.passes v.values) v.memory.held v.memory.verdicts
          c.args.node c.args.label c.in_ok-place.place at.0 at.1 at.2 σ c.if-self-place-eq1.false;
    }
