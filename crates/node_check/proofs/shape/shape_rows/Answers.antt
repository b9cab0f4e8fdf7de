use Rattle.std.proofs.Common.{◌≡◌, ◌<◌, true, length, get_or, sym, ap, ◌∙◌, subst, arith, length-set}
use Rattle.draft.specs.Refusals.{shape_names}
use Rattle.draft.specs.declared.rows.ShapeRow.TheVariants.{Value}
use Rattle.tables.specs.Held.{held}
use Rattle.node_check.specs.Shapes.{row_holds}
use Rattle.node_check.proofs.Rows.{names_more, settled_more}
use Rattle.node_check.proofs.shape.shape_rows.Goals as goal

pub row_holds-requires : goal.row_holds-requires
row_holds-requires g c =
    let t = held c.args.tables.now in
    let law = c.lawful.ensures in
    let r = c.loop-r.r in
    let rows = c.shapes-row-items.ensures in
    let l : r < length t.shapes = subst (λ rows. r < length rows) rows c.loop-r-test.true in
    subst (λ rows. shape_names 128 128 (get_or rows r (Value 0)) ≡ true) (sym rows)
    (names_more (length t.triples) 128 r 128 (get_or t.shapes r (Value 0)) law.few_triples (omega (arith, law.few_shapes)) (law.shape_rows r l))

pub loop-r-preserved : goal.loop-r-preserved
loop-r-preserved g c =
    let t = held c.args.tables.now in
    let law = c.lawful.ensures in
    let r = c.loop-r.r in
    let rows = c.shapes-row-items.ensures in
    let l : r < length t.shapes = subst (λ rows. r < length rows) rows c.loop-r-test.true in
    let passes = g.V.ValueTest.passes c.args.values.now c.args.node in
    let met = c.args.met.now in
    let old = c.loop-r.invariant in (
      settled_more passes met (length t.triples) t.shapes r c.loop-r.holds c.row_holds.result (omega (arith, old.1, law.few_shapes))
          (λ k h. law.shape_rows k (omega arith))
          (c.row_holds.ensures ∙ ap (λ rows. row_holds passes met c.loop-r.holds (get_or rows r (Value 0))) rows) old.0,
      length-set c.loop-r.holds r c.row_holds.result ∙ old.1,
    )
