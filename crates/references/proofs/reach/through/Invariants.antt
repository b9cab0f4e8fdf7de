use Rattle.std.proofs.Common.{◌≡◌, ℕ, ◌<◌, ◌≤◌, ◌&&◌, ◌||◌, length}
use Rattle.labels.specs.Members.{in_row}
use Rattle.references.proofs.reach.through.Given as goal

abbrev pub invariant-loop-labels : goal.invariant-loop-labels
invariant-loop-labels l =
    (length l.reach ≡ 32)
    × ((a k : ℕ) → a < l.labels-index → in_row l.reach a k ≡ (in_row l.initial.reach a k || (in_row l.initial.reach a l.m && in_row l.initial.reach l.m k)))
    × ((a k : ℕ) → l.labels-index ≤ a → in_row l.reach a k ≡ in_row l.initial.reach a k)
