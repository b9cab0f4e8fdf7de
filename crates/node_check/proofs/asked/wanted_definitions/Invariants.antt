use Rattle.std.proofs.Common.{◌≡◌, length}
use Rattle.node_check.proofs.Naming.{Defined}
use Rattle.node_check.proofs.asked.wanted_definitions.Given as goal

abbrev pub invariant-loop-label : goal.invariant-loop-label
invariant-loop-label l = Defined l.wanted l.row-items l.label l.shapes × (length l.shapes ≡ 128)
