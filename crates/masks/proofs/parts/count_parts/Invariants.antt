use Rattle.std.proofs.Common.{◌^◌}
use Rattle.masks.specs.Steps.{Begun}
use Rattle.masks.proofs.parts.count_parts.Given as goal

abbrev pub invariant-loop-place : goal.invariant-loop-place
invariant-loop-place l = Begun l.a l.counts l.fan.value (2 ^ l.place)
