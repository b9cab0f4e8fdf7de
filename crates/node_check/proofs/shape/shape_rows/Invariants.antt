use Rattle.std.proofs.Common.{◌≡◌, length}
use Rattle.tables.specs.Held.{held}
use Rattle.node_check.specs.Shapes.{Settled}
use Rattle.node_check.proofs.shape.shape_rows.Given as goal

abbrev pub invariant-loop-r : goal.invariant-loop-r
invariant-loop-r g l =
    Settled (g.V.ValueTest.passes l.values l.node) l.met (held l.tables).shapes l.r l.holds × (length l.holds ≡ 128)
