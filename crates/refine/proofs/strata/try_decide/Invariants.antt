use Rattle.std.proofs.Common.{◌≡◌}
use Rattle.refine.proofs.Decisions.{Risen}
use Rattle.refine.proofs.strata.try_decide.Given as goal

abbrev pub invariant-loop-stratum : goal.invariant-loop-stratum
invariant-loop-stratum g l =
    (g.C.NodeCheck.schema l.check ≡ g.C.NodeCheck.schema l.initial.check)
    × (g.C.NodeCheck.graph l.check ≡ g.C.NodeCheck.graph l.initial.check)
    × Risen (g.C.NodeCheck.schema l.initial.check) (g.C.NodeCheck.graph l.initial.check) l.strata l.held l.wanted l.stratum-counter l.fn.typing l.typing
