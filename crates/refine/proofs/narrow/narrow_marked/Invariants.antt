use Rattle.std.proofs.Common.{◌≡◌}
use Rattle.refine.specs.Narrowing.{Passed}
use Rattle.refine.proofs.narrow.narrow_marked.Given as goal

abbrev pub invariant-loop-node : goal.invariant-loop-node
invariant-loop-node g l =
    (g.C.NodeCheck.schema l.check ≡ g.C.NodeCheck.schema l.initial.check)
    × (g.C.NodeCheck.graph l.check ≡ g.C.NodeCheck.graph l.initial.check)
    × Passed (g.C.NodeCheck.schema l.initial.check) (g.C.NodeCheck.graph l.initial.check) l.due l.cleared l.initial.marks l.marks l.initial.typing l.typing l.node
