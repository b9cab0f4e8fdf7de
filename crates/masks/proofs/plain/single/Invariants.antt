use Rattle.std.proofs.Common.{ℕ, ◌^◌, ◌<◌, ◌↔◌}
use Rattle.masks.specs.Masks.{On, Among}
use Rattle.masks.proofs.plain.single.Given as goal

abbrev pub invariant-loop-j : goal.invariant-loop-j
invariant-loop-j l = (k : ℕ) → k < 2 ^ l.fan.value → On l.c k ↔ Among l.admitted l.fan.value l.j k
