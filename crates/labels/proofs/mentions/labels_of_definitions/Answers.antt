use Rattle.std.proofs.Common.{refl, ◌∙◌, ap, length, get_or, arith, length-set}
use Rattle.draft.specs.Tables.{schema_of}
use Rattle.tables.specs.Held.{held}
use Rattle.labels.specs.Members.{member}
use Rattle.labels.specs.Mentions.{mentions, negates}
use Rattle.labels.specs.Rows.{no_labels, mentioned_in, negated_in, admitted}
use Rattle.labels.proofs.Bit.{bit_none}
use Rattle.labels.proofs.ByRows.{none_filled, filled_more, below}
use Rattle.labels.proofs.mentions.labels_of_definitions.Goals as goal

pub loop-label-init : goal.loop-label-init
loop-label-init g c = (
  refl,
  none_filled (λ x. member x.mentioned) no_labels 32 _ bit_none,
  none_filled (λ x. member x.negated) no_labels 32 _ bit_none,
)

pub loop-label-preserved : goal.loop-label-preserved
loop-label-preserved g c =
    let t = held c.args.tables.now in
    let has = admitted (g.F.ArcFilter.admits c.args.filter.now) t.sets in
    let l = c.loop-label.label in
    let rows = c.labels_of_rows-rows.result in
    let inv = c.loop-label.invariant in
    let items = c.definitions-row-items.ensures in
    let n = ap length items in
    let here = c.lawful.ensures.defined l (omega (arith, n)) in
    let same = c.from.ensures ∙ ap (λ ds. get_or ds l 0) items in
    let x = get_or rows c.from.result no_labels in (
      length-set _ _ _ ∙ inv.0,
      filled_more (λ x. member x.mentioned) no_labels c.loop-label.labels l x (λ a k. mentions has ((schema_of t).definition a) k)
          (omega (arith, n, c.lawful.ensures.few_labels)) inv.1
          (λ k. ap (λ r. mentioned_in rows r k) same ∙ below _ _ _ _ here (c.labels_of_rows-rows.ensures.mentioned (get_or t.definitions l 0) k)),
      filled_more (λ x. member x.negated) no_labels c.loop-label.labels l x (λ a k. negates has ((schema_of t).definition a) k)
          (omega (arith, n, c.lawful.ensures.few_labels)) inv.2
          (λ k. ap (λ r. negated_in rows r k) same ∙ below _ _ _ _ here (c.labels_of_rows-rows.ensures.negated (get_or t.definitions l 0) k)),
    )
