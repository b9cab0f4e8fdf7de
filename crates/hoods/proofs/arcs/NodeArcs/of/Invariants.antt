use Rattle.std.proofs.Common.{◌≡◌, length, take}
use Rattle.hoods.proofs.arcs.NodeArcs.of.Given as goal

abbrev pub invariant-loop-place : goal.invariant-loop-place
invariant-loop-place g l = (length l.arcs ≡ 12) × (l.fan ≡ length l.yielded) × (take (length l.yielded) l.arcs ≡ take (length l.yielded) (g.S.Store.arcs l.fn.store l.fn.node))
