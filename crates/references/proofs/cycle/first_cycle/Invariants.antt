use Rattle.std.proofs.Common.{◌≡◌, ℕ, ◌<◌, false}
use Rattle.references.specs.Cycles.{closes}
use Rattle.references.proofs.cycle.first_cycle.Given as goal

abbrev pub invariant-loop-l : goal.invariant-loop-l
invariant-loop-l c = (i j : ℕ) → i < c.l → j < 32 → closes c.references c.reach i j ≡ false
