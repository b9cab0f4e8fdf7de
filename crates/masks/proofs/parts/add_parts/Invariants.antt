use Rattle.std.proofs.Common.{◌+◌}
use Rattle.masks.specs.Steps.{Begun}
use Rattle.masks.proofs.parts.add_parts.Given as goal

abbrev pub invariant-loop-low : goal.invariant-loop-low
invariant-loop-low l = Begun l.a l.counts l.fn.fan.value (l.top + l.low)
