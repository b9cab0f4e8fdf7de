use Rattle.std.proofs.Common.{◌+◌, ◌-◌, false, get_or, set, ap, ◌∙◌, arith}
use Rattle.std.proofs.lemmas.Bool.{both_ways}
use Rattle.std.proofs.lemmas.Bool.Decides.{not_from_Decides}
use Rattle.refine.proofs.Rows.{get_or-mid}
use Rattle.refine.proofs.Steps.{visited_none, visited_row}
use Rattle.refine.proofs.narrow.narrow_node.Goals as goal

pub returns-then-not-is_in-clause-change : goal.returns-then-not-is_in-clause-change
returns-then-not-is_in-clause-change g c =
    let x = c.args.typing.now in
    let r = c.row.result in
    rw c.from.ensures (
    visited_none (g.C.NodeCheck.schema c.args.check.now) (g.C.NodeCheck.graph c.args.check.now) c.args.due.now x c.requires.fits c.args.node c.args.marks.now
    (λ l h one due. not_from_Decides c.is_in.result c.is_in.ensures c.if-not-is_in.true
    (l, h, get_or-mid x r.start (r.end - r.start) l (omega arith) ∙ ap (λ a. get_or x (a + l) 0) c.row.ensures.start ∙ one, due))
    )

pub returns-then-cleared-clause-change : goal.returns-then-cleared-clause-change
returns-then-cleared-clause-change g c =
    let r = c.row-2.result in
    visited_row (g.C.NodeCheck.schema c.args.check.now) (g.C.NodeCheck.graph c.args.check.now) c.args.due.now c.args.typing.now c.requires.fits c.args.node c.satisfied-found.result
    c.clear-cleared.new.row c.clear-cleared.result r.start (r.end - r.start) c.row-2.ensures.start (omega arith) (omega arith) (omega arith) c.clear-cleared.ensures c.args.marks.now
    c.mark_leading.new.marks c.requires.node_bound c.satisfied-found.ensures.value (λ _. rw (c.satisfied-found.ensures.kept.1, c.from.ensures) at c.mark_leading.ensures)
    (λ e. absurd (both_ways c.clear-cleared.result e c.if-cleared.true))

pub returns-else-cleared-clause-change : goal.returns-else-cleared-clause-change
returns-else-cleared-clause-change g c =
    let r = c.row-2.result in
    visited_row (g.C.NodeCheck.schema c.args.check.now) (g.C.NodeCheck.graph c.args.check.now) c.args.due.now c.args.typing.now c.requires.fits c.args.node c.satisfied-found.result
    c.clear-cleared.new.row c.clear-cleared.result r.start (r.end - r.start) c.row-2.ensures.start (omega arith) (omega arith) (omega arith) c.clear-cleared.ensures c.args.marks.now
    (set c.args.marks.now c.from.result false) c.requires.node_bound c.satisfied-found.ensures.value (λ e. absurd (both_ways c.clear-cleared.result c.if-cleared.false e))
    (λ _. ap (λ i. set c.args.marks.now i false) c.from.ensures)
