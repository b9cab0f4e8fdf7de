use Rattle.std.proofs.Common.{ℕ, ◌<◌, ◌≤◌, ◌↔◌, get_or}
use Rattle.masks.specs.Masks.{On, Bit}
use Rattle.masks.proofs.parts.times.Given as goal

abbrev pub invariant-loop-m : goal.invariant-loop-m
invariant-loop-m l = (k : ℕ) → k < l.m → On l.masks k ↔ ((j : ℕ) × (l.lo ≤ j) × (j ≤ l.hi) × Bit (get_or l.counts k 0) j)
