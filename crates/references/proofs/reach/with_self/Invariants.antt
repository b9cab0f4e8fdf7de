use Rattle.std.proofs.Common.{◌≡◌, ℕ, ◌<◌, ◌||◌, eqb, length}
use Rattle.labels.specs.Members.{in_row}
use Rattle.labels.specs.Rows.{mentioned_in}
use Rattle.references.proofs.reach.with_self.Given as goal

abbrev pub invariant-loop-l : goal.invariant-loop-l
invariant-loop-l l =
    (length l.reach ≡ 32) × ((a k : ℕ) → a < l.l → in_row l.reach a k ≡ (eqb a k || mentioned_in l.references a k))
