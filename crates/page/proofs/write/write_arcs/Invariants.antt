use Rattle.std.proofs.Common.{◌≡◌}
use Rattle.triple.specs.Stores.{total}
use Rattle.page.specs.Format.{arcs_of}
use Rattle.page.specs.Laying.{laid}
use Rattle.page.proofs.write.write_arcs.Given as goal

abbrev pub invariant-loop-node : goal.invariant-loop-node
invariant-loop-node g l =
    (l.at ≡ total l.node (g.S.Store.arcs l.store))
    × (l.arcs ≡ laid l.initial.arcs (total (g.S.Store.nodes l.store) (g.S.Store.arcs l.store)) (arcs_of l.node (g.S.Store.arcs l.store)))
