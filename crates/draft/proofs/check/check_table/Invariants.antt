use Rattle.std.proofs.Common.{◌≡◌, ℕ, ◌+◌, Option, length}
use Rattle.draft.specs.Refusals.{Told, AnswersBy, first_from}
use Rattle.draft.proofs.check.check_table.Given as goal

abbrev pub invariant-loop-row : goal.invariant-loop-row
invariant-loop-row g l = record {
  callable : goal.F-IsAlwaysCallable g l.check;
  counted : l.row-iterator.b.start + length l.row-iterator.a.rest.now ≡ length l.rows;
  passed : (test : ℕ → _ → Option Told) → AnswersBy g.F.Fn l.check test
      → first_from test l.row-iterator.b.start l.row-iterator.a.rest.now ≡ first_from test 0 l.rows;
}
