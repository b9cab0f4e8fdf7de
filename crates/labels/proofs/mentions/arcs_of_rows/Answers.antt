use Rattle.std.proofs.Common.{refl, ◌∙◌, ap₂, length, get_or, arith, length-set, ap}
use Rattle.draft.specs.Rows.{triple_tree}
use Rattle.draft.specs.declared.rows.TripleRow.TheVariants.{Empty}
use Rattle.tables.specs.Held.{held}
use Rattle.labels.specs.Members.{member, none, in_row}
use Rattle.labels.specs.Mentions.{has_arc, arcs_by}
use Rattle.labels.specs.Rows.{admitted}
use Rattle.labels.proofs.Bit.{bit_none}
use Rattle.labels.proofs.ByRows.{none_filled, filled_more, arcs_row}
use Rattle.labels.proofs.mentions.arcs_of_rows.Goals as goal

pub loop-r-init : goal.loop-r-init
loop-r-init g c = (refl, none_filled member none 128 _ bit_none)

pub loop-r-preserved : goal.loop-r-preserved
loop-r-preserved g c =
    let t = held c.args.tables.now in
    let has = admitted (g.F.ArcFilter.admits c.args.filter.now) t.sets in
    let r = c.loop-r.r in
    let inv = c.loop-r.invariant in
    let n = ap length c.triples-row-items.ensures in (
      length-set _ _ _ ∙ inv.0,
      filled_more member none c.loop-r.rows r c.arcs_of_row-labels.result (λ a k. has_arc has (triple_tree t.triples a) k)
          (omega (arith, n, c.lawful.ensures.few_triples)) inv.1
          (λ k. c.arcs_of_row-labels.ensures k
          ∙ ap₂ (λ sets rows. arcs_by (admitted (g.F.ArcFilter.admits c.args.filter.now) sets) (in_row c.loop-r.rows) (get_or rows r Empty) k)
          c.sets-sets.ensures c.triples-row-items.ensures
          ∙ arcs_row has _ _ t.triples c.lawful.ensures.triple_rows r (omega (arith, n)) (in_row c.loop-r.rows) inv.1 k),
    )
