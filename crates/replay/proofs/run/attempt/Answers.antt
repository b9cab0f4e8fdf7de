use Rattle.std.proofs.Common.{◌≡◌, Err, Result, refl, ap, ◌∙◌}
use Rattle.std.proofs.lemmas.Result.{err_from_is_err_and}
use Rattle.validate.specs.Faults.{code, told}
use Rattle.validate.specs.declared.fault.ValidatorFault.{ValidatorFault}
use Rattle.replay.specs.declared.call.Answer.{Answer}
use Rattle.replay.specs.declared.call.Answer.TheVariants.{Refused}
use Rattle.replay.specs.Runs.{reply, add, withdraw, look, held}
use Rattle.replay.proofs.Turns.{same_step, swept}
use Rattle.replay.proofs.run.attempt.Goals as goal

-- a fault that `?` passes on, as an answer
refused : (r : Result Answer ValidatorFault) (e f : ValidatorFault) → r ≡ Err e → e ≡ f → reply (λ a. a) (told r) ≡ Refused (code f).0 (code f).1
refused r e f h k = ap (λ z. reply (λ a. a) (told z)) (h ∙ ap Err k)

pub returns-in_err-add-in-Add-clause-step : goal.returns-in_err-add-in-Add-clause-step
returns-in_err-add-in-Add-clause-step g c =
    let p = err_from_is_err_and c.from_residual.result c.from_residual.ensures.1 in
    λ σ stratified sound. same_step _ σ c.in-Add.is (refused c.from_residual.result p.0 _ p.1 p.2) (add c.in_err-add-in-Add.ensures.step)

pub returns-in_ok-add-in-Add-clause-step : goal.returns-in_ok-add-in-Add-clause-step
returns-in_ok-add-in-Add-clause-step g c = λ σ stratified sound. same_step _ σ c.in-Add.is refl (add c.in_ok-add-in-Add.ensures.step)

pub returns-in_err-withdraw-in-Withdraw-clause-step : goal.returns-in_err-withdraw-in-Withdraw-clause-step
returns-in_err-withdraw-in-Withdraw-clause-step g c =
    let p = err_from_is_err_and c.from_residual-in_err-withdraw-in-Withdraw.result c.from_residual-in_err-withdraw-in-Withdraw.ensures.1 in
    λ σ stratified sound. same_step _ σ c.in-Withdraw.is (refused c.from_residual-in_err-withdraw-in-Withdraw.result p.0 _ p.1 p.2) (withdraw c.in_err-withdraw-in-Withdraw.ensures.step)

pub returns-in_ok-withdraw-in-Withdraw-clause-step : goal.returns-in_ok-withdraw-in-Withdraw-clause-step
returns-in_ok-withdraw-in-Withdraw-clause-step g c = λ σ stratified sound. same_step _ σ c.in-Withdraw.is refl (withdraw c.in_ok-withdraw-in-Withdraw.ensures.step)

pub returns-in_err-look-in-Look-clause-step : goal.returns-in_err-look-in-Look-clause-step
returns-in_err-look-in-Look-clause-step g c =
    let p = err_from_is_err_and c.from_residual-in_err-look-in-Look.result c.from_residual-in_err-look-in-Look.ensures.1 in
    λ σ stratified sound. same_step _ σ c.in-Look.is (refused c.from_residual-in_err-look-in-Look.result p.0 _ p.1 p.2) (look (c.in_err-look-in-Look.ensures.step σ stratified sound))

pub returns-in_ok-look-in-Look-clause-step : goal.returns-in_ok-look-in-Look-clause-step
returns-in_ok-look-in-Look-clause-step g c = λ σ stratified sound. same_step _ σ c.in-Look.is refl (look (c.in_ok-look-in-Look.ensures.step σ stratified sound))

pub returns-in_err-held-in-Held-clause-step : goal.returns-in_err-held-in-Held-clause-step
returns-in_err-held-in-Held-clause-step g c =
    let p = err_from_is_err_and c.from_residual-in_err-held-in-Held.result c.from_residual-in_err-held-in-Held.ensures.1 in
    λ σ stratified sound. same_step _ σ c.in-Held.is (refused c.from_residual-in_err-held-in-Held.result p.0 _ p.1 p.2) (held (c.in_err-held-in-Held.ensures.step σ stratified sound))

pub returns-in_ok-held-in-Held-clause-step : goal.returns-in_ok-held-in-Held-clause-step
returns-in_ok-held-in-Held-clause-step g c = λ σ stratified sound. same_step _ σ c.in-Held.is refl (held (c.in_ok-held-in-Held.ensures.step σ stratified sound))

pub returns-in_err-sweep-in-Sweep-clause-step : goal.returns-in_err-sweep-in-Sweep-clause-step
returns-in_err-sweep-in-Sweep-clause-step g c =
    let p = err_from_is_err_and c.from_residual-in_err-sweep-in-Sweep.result c.from_residual-in_err-sweep-in-Sweep.ensures.1 in
    λ σ stratified sound. same_step _ σ c.in-Sweep.is (refused c.from_residual-in_err-sweep-in-Sweep.result p.0 _ p.1 p.2) (swept _ σ c.proposed.ensures (c.in_err-sweep-in-Sweep.ensures.step σ stratified sound))

pub returns-in_ok-sweep-in-Sweep-clause-step : goal.returns-in_ok-sweep-in-Sweep-clause-step
returns-in_ok-sweep-in-Sweep-clause-step g c = λ σ stratified sound. same_step _ σ c.in-Sweep.is refl (swept _ σ c.proposed.ensures (c.in_ok-sweep-in-Sweep.ensures.step σ stratified sound))
