use Rattle.std.proofs.Common.{◌≡◌, ℕ, ◌+◌, ◌-◌, ◌<◌, ◌≤◌, length, get_or, sym, refl, ap, ◌∙◌, arith, rules}
use Rattle.std.proofs.lemmas.List.{drop-set-lt, take_all}
use Rattle.std.proofs.lemmas.List.Sums.{sum_by_more, sum_by_more_le}
use Rattle.std.proofs.lemmas.Result.{err_from_is_err_and}
use Rattle.shapes.proofs.Greatest.{greatest_stands}
use Rattle.validate.proofs.Keeping.{keeps_none, keeps_then}
use Rattle.replay.specs.Runs.{lent, all_lent}
use Rattle.replay.proofs.Turns.{both_fit, lent_more, drop_later, goes_all, drop_part, turn}
use Rattle.replay.proofs.run.replay.Goals as goal

pub returns-in_err-fits : goal.returns-in_err-fits
returns-in_err-fits g c =
    let p = err_from_is_err_and c.from_residual.result c.from_residual.ensures.1 in
    rw (p.1, p.2)
    (record {
      answer = c.in_err-fits.ensures;
      refused = (refl, refl, refl);
      runs = tt;
      kept = keeps_none _;
      typing = λ σ stratified. greatest_stands _ _ σ stratified;
      same = (refl, refl);
    })

pub loop-i-preserved : goal.loop-i-preserved
loop-i-preserved g c =
    let inv = c.loop-i.invariant in
    let calls = c.args.calls.now in
    let i = c.loop-i.i in
    let at = c.loop-i.at in
    let end : ℕ = at + c.from.result in
    let in_calls : i < length calls = omega arith in
    let fits = both_fit calls (length c.args.answers.now) (length c.args.tables.now) c.in_ok-fits.ensures in
    let in_answers : i < length c.loop-i.answers = omega (arith, fits.0) in
    let more = lent_more calls i c.from.result _ in_calls (c.from.ensures ∙ c.room.ensures) in
    let in_tables : end ≤ length c.loop-i.tables = omega (arith, more.1, inv.0, fits.1) in
    let ends : end ≡ at + (end - at) = omega arith in
    let room : end - at ≡ c.from.result = omega arith in (
      ap (λ n. n + c.from.result) inv.0 ∙ sym more.0,
      drop-set-lt (i + 1) c.loop-i.answers i c.perform.result (omega arith) ∙ drop_later c.loop-i.answers c.args.answers.now i (i + 1) (omega arith) inv.1,
      drop_part calls c.loop-i.answers c.loop-i.tables c.perform.new.table i at end (end - at) _ c.perform.result in_calls in_answers in_tables ends (room ∙ c.from.ensures ∙ c.room.ensures) c.perform.auto.table
          ∙ drop_later c.loop-i.tables c.args.tables.now at end (omega arith) inv.2,
      keeps_then _ _ _ inv.3 c.perform.ensures.kept,
      turn calls c.loop-i.answers c.loop-i.tables c.perform.new.table i at end (end - at) _ c.perform.result in_calls in_answers in_tables ends (room ∙ c.from.ensures ∙ c.room.ensures) c.perform.auto.table
          (g.A.Validate.state c.args.validator.now) (g.A.Validate.state c.loop-i.validator) (g.A.Validate.state c.perform.new.validator) c.args.tables.now inv.3 c.perform.ensures.step inv.4,
    )

pub returns-clause-runs : goal.returns-clause-runs
returns-clause-runs g c =
    let calls = c.args.calls.now in
    λ σ stratified sound. goes_all _ σ _ calls c.loop-i.answers _ c.loop-i.tables c.loop-i.i c.loop-i.at _ (omega arith) (c.loop-i.invariant.4 σ stratified sound)

pub returns-clause-typing : goal.returns-clause-typing
returns-clause-typing g c = λ σ stratified. greatest_stands _ _ σ stratified
