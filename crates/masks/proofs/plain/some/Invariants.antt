use Rattle.std.proofs.Common.{ℕ, ◌<◌, ◌⊎◌, ◌↔◌}
use Rattle.masks.specs.Masks.{On}
use Rattle.masks.proofs.plain.some.Given as goal

abbrev pub invariant-loop-m : goal.invariant-loop-m
invariant-loop-m l = (k : ℕ) → k < l.m → On l.masks k ↔ (On l.a k ⊎ On l.b k)
