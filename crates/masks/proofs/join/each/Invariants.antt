use Rattle.masks.specs.Steps.{Joined}
use Rattle.masks.proofs.join.each.Given as goal

abbrev pub invariant-loop-s : goal.invariant-loop-s
invariant-loop-s l = Joined l.fan.value l.a l.b l.s l.c
