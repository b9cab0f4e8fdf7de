-- The arcs that a copy holds. Assumes nothing.
--     arcs_of a     the arcs in the copy a
use Rattle.std.specs.Prelude.{take}
use Rattle.shapes.specs.Meaning.{Arcs}
use Rattle.hoods.specs.declared.arcs.NodeArcs.{NodeArcs}

abbrev pub arcs_of : NodeArcs → Arcs
arcs_of a = take a.fan.value a.arcs
