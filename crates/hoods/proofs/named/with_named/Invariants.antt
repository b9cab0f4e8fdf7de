use Rattle.std.proofs.Common.{◌≡◌, ℕ, length}
use Rattle.masks.specs.Masks.{On}
use Rattle.hoods.proofs.Flagged.{From}
use Rattle.hoods.proofs.named.with_named.Given as goal

abbrev pub invariant-loop-r : goal.invariant-loop-r
invariant-loop-r l = ((p : ℕ) → On l.asked p → On l.flags p) × From l.r l.rows l.flags × (length l.flags ≡ 128)
