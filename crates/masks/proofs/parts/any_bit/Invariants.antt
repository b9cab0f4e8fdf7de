use Rattle.std.proofs.Common.{ℕ, ◌<◌, ◌≤◌}
use Rattle.masks.specs.Masks.{Bit}
use Rattle.masks.proofs.parts.any_bit.Given as goal

abbrev pub invariant-loop-j : goal.invariant-loop-j
invariant-loop-j l = (i : ℕ) → l.lo ≤ i → i < l.j → Bit l.x i → ⊥
