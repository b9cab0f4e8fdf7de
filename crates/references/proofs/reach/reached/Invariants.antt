use Rattle.std.proofs.Common.{◌≡◌, ℕ, ◌<◌}
use Rattle.labels.specs.Members.{in_row}
use Rattle.labels.specs.Rows.{mentioned_in}
use Rattle.references.specs.Ways.{way}
use Rattle.references.proofs.reach.reached.Given as goal

abbrev pub invariant-loop-m : goal.invariant-loop-m
invariant-loop-m l = (a k : ℕ) → a < 32 → in_row l.reach a k ≡ way (mentioned_in l.references) l.m a k
