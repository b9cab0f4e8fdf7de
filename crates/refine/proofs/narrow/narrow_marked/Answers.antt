use Rattle.std.proofs.Common.{◌≡◌, false, get_or, sym, ap, ◌∙◌, arith}
use Rattle.refine.proofs.Steps.{passed_unmarked, passed_visited}
use Rattle.refine.proofs.narrow.narrow_marked.Goals as goal
use Rattle.refine.proofs.narrow.narrow_marked.Goals.{then-marks-from, else-marks-from}

pub narrow_node-cleared-requires : goal.narrow_node-cleared-requires
narrow_node-cleared-requires g c =
    let e : g.C.NodeCheck.schema c.loop-node.check ≡ g.C.NodeCheck.schema c.args.check.now = c.loop-node.invariant.0 in
    let f : g.C.NodeCheck.graph c.loop-node.check ≡ g.C.NodeCheck.graph c.args.check.now = c.loop-node.invariant.1 in
    rw (e, f) (record { node_bound = omega arith; fits = record { nodes = c.requires.nodes; labels = c.requires.labels; long = omega arith } })

pub loop-node-preserved : goal.loop-node-preserved
loop-node-preserved g c =
    let S = g.C.NodeCheck.schema c.args.check.now in
    let G = g.C.NodeCheck.graph c.args.check.now in
    let l = c.loop-node in
    let e : g.C.NodeCheck.schema l.check ≡ S = l.invariant.0 in
    let f : g.C.NodeCheck.graph l.check ≡ G = l.invariant.1 in
    let d = c.args.due.now in
    elim c.if-marks-from.branch [
      | then-marks-from w ↦
          let k = w.narrow_node-cleared.ensures in
          rw (w.check-is, w.cleared-is, w.marks-is, w.typing-is) (
            k.kept.0 ∙ e,
            k.kept.1 ∙ f,
            passed_visited S G d l.cleared c.args.marks.now l.marks c.args.typing.now l.typing l.node l.invariant.2 w.narrow_node-cleared.result w.narrow_node-cleared.new.marks w.narrow_node-cleared.new.typing
                (omega arith) (rw (e, f) at k.change),
          )
      | else-marks-from w ↦
          rw (w.check-is, w.cleared-is, w.marks-is, w.typing-is) (
            e,
            f,
            passed_unmarked S G d l.cleared c.args.marks.now l.marks c.args.typing.now l.typing l.node l.invariant.2 (ap (λ i. get_or l.marks i false) (sym c.from.ensures) ∙ w.if-marks-from.false),
          )
    ]
