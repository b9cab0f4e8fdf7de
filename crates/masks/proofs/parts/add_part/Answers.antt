use Rattle.std.proofs.Common.{refl, ap, ◌∙◌, sym, subst, arith}
use Rattle.masks.specs.Steps.{More}
use Rattle.masks.specs.Submasks.{after}
use Rattle.masks.specs.declared.submasks.Submasks.{Submasks}
use Rattle.masks.proofs.Tally.{more_none, more_take, more_down, lower_set}
use Rattle.masks.proofs.Descending.{left_whole, part_here, after_here, left_more, none_left}
use Rattle.masks.proofs.parts.add_part.Goals as goal

pub loop-d-init : goal.loop-d-init
loop-d-init c =
    let old = c.args.counts.now in
    let p = c.args.part in
    let r = c.args.rest in
    let it = c.into_iter-d-iterator.result in
    let same = c.into_iter-d-iterator.ensures.into_iter_gives in
    let first = ap (λ (s : Submasks). s.next) same ∙ c.of-d-items.ensures.first in (
      tt,
      tt,
      left_whole r it (ap (λ (s : Submasks). s.whole) same ∙ c.of-d-items.ensures.whole) first,
      λ e h. refl,
      subst (λ o. More old p r (after o) old) (sym first) (more_none old p r),
    )

pub loop-d-preserved : goal.loop-d-preserved
loop-d-preserved c =
    let old = c.args.counts.now in
    let p = c.args.part in
    let r = c.args.rest in
    let d = c.in-Some.d in
    let it = c.loop-d.d-iterator in
    let to = c.next.new.self in
    let inv = c.loop-d.invariant in
    let left = inv.2 in
    let g = c.in-Some.ensures.steps in
    let here = part_here r d it to left g in
    let all = subst (λ lo. More old p r lo c.loop-d.counts) (after_here r d it to left g) inv.4 in
    let more = more_take old p r d c.loop-d.counts here c.requires.lower (omega (arith, here.0, c.requires.room)) inv.3 all in (
      tt,
      tt,
      left_more r d it to left g,
      lower_set old p r d _ c.loop-d.counts inv.3,
      more_down old p r d it to left g _ more,
    )

pub returns : goal.returns
returns c =
    subst (λ lo. More c.args.counts.now c.args.part c.args.rest lo c.loop-d.counts)
    (none_left c.loop-d.d-iterator c.next.new.self c.in-None.ensures.steps) c.loop-d.invariant.4
