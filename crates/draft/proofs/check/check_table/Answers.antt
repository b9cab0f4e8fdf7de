use Rattle.std.proofs.Common.{length, Ok, ap, arith, inl, inr}
use Rattle.draft.proofs.First.{first_passed, first_ended}
use Rattle.draft.proofs.check.check_table.Goals as goal

pub loop-row-preserved : goal.loop-row-preserved
loop-row-preserved g c =
    let s = c.in-Some.ensures.steps in
    record {
      callable = c.loop-row.invariant.callable;
      counted = omega (arith, ap length s.0, s.1.0, s.1.1, c.loop-row.invariant.counted);
      passed = λ test says.
          first_passed test _ _ _ _ _ _ _ s.0 s.1.0 s.1.1
          (says c.in-Some.r c.in-Some.row.now (Ok c.in_ok-check.field-0) c.in_ok-check.ensures)
          (c.loop-row.invariant.passed test says);
    }

pub returns : goal.returns
returns g c = λ test says.
    elim c.in-None.ensures.steps [
      | inl s ↦ first_ended test _ _ _ s.1.0 (c.loop-row.invariant.passed test says)
      | inr s ↦ absurd (omega (arith, s.1.0, c.requires.few, c.loop-row.invariant.counted))
    ]
