use Rattle.std.proofs.Common.{◌≡◌, sum}
use Rattle.refine.specs.Narrowing.{Narrowed, Settled}
use Rattle.refine.proofs.narrow.narrow.Given as goal

abbrev pub invariant-loop-marks : goal.invariant-loop-marks
invariant-loop-marks g l =
    (g.C.NodeCheck.schema l.check ≡ g.C.NodeCheck.schema l.initial.check)
    × (g.C.NodeCheck.graph l.check ≡ g.C.NodeCheck.graph l.initial.check)
    × Narrowed (g.C.NodeCheck.schema l.initial.check) (g.C.NodeCheck.graph l.initial.check) l.due l.initial.typing l.typing
    × Settled (g.C.NodeCheck.schema l.initial.check) (g.C.NodeCheck.graph l.initial.check) l.due l.marks l.typing

abbrev pub decreases-loop-marks : goal.decreases-loop-marks
decreases-loop-marks g l = sum l.typing
