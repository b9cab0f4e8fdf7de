use Rattle.std.proofs.Common.{◌≡◌, ◌+◌, ◌<◌, Bool, true, List, length, get_or, sym, ap, ◌∙◌, subst, arith, length-set}
use Rattle.tables.specs.Held.{held}
use Rattle.node_check.proofs.Naming.{Defined, defined_more, defined_skip}
use Rattle.node_check.proofs.asked.wanted_definitions.Goals as goal
use Rattle.node_check.proofs.asked.wanted_definitions.Goals.{then-wanted-label, else-wanted-label}

pub loop-label-preserved : goal.loop-label-preserved
loop-label-preserved c =
    let t = held c.args.tables.now in
    let q = c.loop-label.label in
    let defs = c.definitions-row-items.result.now in
    let wanted = c.args.wanted.now in
    let Kept : List Bool → Type 0 = λ flags. Defined wanted defs (q + 1) flags × (length flags ≡ 128) in
    let l : q < length t.definitions = subst (λ d. q < length d) c.definitions-row-items.ensures c.loop-label-test.true in
    let row : get_or defs q 0 < 128 = omega (arith, ap (λ d. get_or d q 0) c.definitions-row-items.ensures, c.lawful.ensures.defined q l, c.lawful.ensures.few_shapes) in
    elim c.if-wanted-label.branch [
      | then-wanted-label w ↦
          subst Kept (sym w.shapes-is) (
            defined_more wanted defs q c.loop-label.shapes w.from.result w.from.ensures (omega (arith, w.from.ensures, row, c.loop-label.invariant.1)) c.loop-label.invariant.0,
            length-set c.loop-label.shapes w.from.result true ∙ c.loop-label.invariant.1,
          )
      | else-wanted-label w ↦ subst Kept (sym w.shapes-is) (defined_skip wanted defs q c.loop-label.shapes w.if-wanted-label.false c.loop-label.invariant.0, c.loop-label.invariant.1)
    ]
