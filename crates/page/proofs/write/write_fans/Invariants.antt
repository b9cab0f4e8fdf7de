use Rattle.std.proofs.Common.{◌≡◌}
use Rattle.page.specs.Format.{fans_of, over}
use Rattle.page.proofs.write.write_fans.Given as goal

abbrev pub invariant-loop-node : goal.invariant-loop-node
invariant-loop-node g l = l.fans ≡ over l.initial.fans (fans_of l.node (g.S.Store.arcs l.store))
