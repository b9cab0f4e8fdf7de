use Rattle.std.proofs.Common.{◌<◌, ◌^◌, get_or, subst, arith}
use Rattle.upstream.proofs.Nodes.{joined_has, joined_fuller}
use Rattle.upstream.proofs.node_set.NodeSet.insert.Goals as goal

pub returns-clause-change : goal.returns-clause-change
returns-clause-change c = rw c.from.ensures (joined_has c.args.self.now.words c.args.node (omega arith))

pub returns-clause-fuller : goal.returns-clause-fuller
returns-clause-fuller c =
    let small = subst (λ k. get_or c.args.self.now.words k 0 < 2 ^ 64) c.from.ensures (omega arith) in
    rw c.from.ensures (joined_fuller c.args.self.now.words c.args.node (omega arith) small)
