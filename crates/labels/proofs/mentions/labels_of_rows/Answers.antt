use Rattle.std.proofs.Common.{refl, ◌∙◌, ap, length, get_or, arith, length-set}
use Rattle.draft.specs.Rows.{shape_tree}
use Rattle.draft.specs.declared.rows.ShapeRow.TheVariants.{Value}
use Rattle.tables.specs.Held.{held}
use Rattle.labels.specs.Members.{member, in_row}
use Rattle.labels.specs.Mentions.{mentions, negates, mentions_by, negates_by}
use Rattle.labels.specs.Rows.{no_labels, mentioned_in, negated_in, admitted}
use Rattle.labels.proofs.Bit.{bit_none}
use Rattle.labels.proofs.ByRows.{none_filled, filled_more, mentions_row, negates_row}
use Rattle.labels.proofs.mentions.labels_of_rows.Goals as goal

pub loop-r-init : goal.loop-r-init
loop-r-init g c = (
  refl,
  none_filled (λ x. member x.mentioned) no_labels 128 _ bit_none,
  none_filled (λ x. member x.negated) no_labels 128 _ bit_none,
)

pub loop-r-preserved : goal.loop-r-preserved
loop-r-preserved g c =
    let t = held c.args.tables.now in
    let has = admitted (g.F.ArcFilter.admits c.args.filter.now) t.sets in
    let r = c.loop-r.r in
    let rows = c.loop-r.rows in
    let x = c.labels_of_row-labels.result in
    let inv = c.loop-r.invariant in
    let items = c.shapes-row-items.ensures in
    let n = ap length items in
    let ok = c.lawful.ensures.shape_rows in (
      length-set _ _ _ ∙ inv.0,
      filled_more (λ x. member x.mentioned) no_labels rows r x (λ a k. mentions has (shape_tree t.triples t.shapes a) k)
          (omega (arith, n, c.lawful.ensures.few_shapes)) inv.1
          (λ k. c.labels_of_row-labels.ensures.mentioned k
          ∙ ap (λ xs. mentions_by (in_row c.arcs_of_rows-arcs.result) (mentioned_in rows) (get_or xs r (Value 0)) k) items
          ∙ mentions_row has t.triples t.shapes ok r (omega (arith, n)) (in_row c.arcs_of_rows-arcs.result) (mentioned_in rows)
          c.arcs_of_rows-arcs.ensures inv.1 k),
      filled_more (λ x. member x.negated) no_labels rows r x (λ a k. negates has (shape_tree t.triples t.shapes a) k)
          (omega (arith, n, c.lawful.ensures.few_shapes)) inv.2
          (λ k. c.labels_of_row-labels.ensures.negated k
          ∙ ap (λ xs. negates_by (mentioned_in rows) (negated_in rows) (get_or xs r (Value 0)) k) items
          ∙ negates_row has t.triples t.shapes ok r (omega (arith, n)) (mentioned_in rows) (negated_in rows) inv.1 inv.2 k),
    )
