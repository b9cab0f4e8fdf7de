use Rattle.std.proofs.Common.{◌≡◌, ◌+◌, ◌-◌, ◌^◌, Some, refl, ◌<◌, ap, ◌∙◌, sym, subst, arith}
use Rattle.masks.specs.Steps.{Spread}
use Rattle.masks.specs.Submasks.{after}
use Rattle.masks.specs.declared.submasks.Submasks.{Submasks}
use Rattle.masks.proofs.Scatter.{spread_none, spread_mark, spread_down}
use Rattle.masks.proofs.Descending.{left_whole, part_here, after_here, left_more, none_left}
use Rattle.masks.proofs.join.spread.Goals as goal

pub loop-d-init : goal.loop-d-init
loop-d-init c =
    let it = c.into_iter-d-iterator.result in
    let same = c.into_iter-d-iterator.ensures.into_iter_gives in
    let first = ap (λ (s : Submasks). s.next) same ∙ c.of-d-items.ensures.first ∙ sym (ap (λ k. Some k) (ap (λ (s : Submasks). s.whole) same ∙ c.of-d-items.ensures.whole)) in
    (tt, tt, left_whole it.whole it refl first, λ n e. subst (λ o. Spread n c.args.c.now c.args.b.now c.args.s it.whole (after o) c.args.c.now) (sym first) (spread_none n c.args.c.now c.args.b.now c.args.s it.whole))

pub loop-d-preserved : goal.loop-d-preserved
loop-d-preserved c =
    let old = c.args.c.now in
    let b = c.args.b.now in
    let s = c.args.s in
    let u = c.into_iter-d-iterator.result.whole in
    let d = c.in-Some.d in
    let it = c.loop-d.d-iterator in
    let to = c.next.new.self in
    let left = c.loop-d.invariant.2 in
    let g = c.in-Some.ensures.steps in
    let p = part_here u d it to left g in
    let small : u + s < 4096 = omega (arith, ap (λ (s : Submasks). s.whole) c.into_iter-d-iterator.ensures.into_iter_gives, c.of-d-items.ensures.whole, c.masks.ensures.bound, c.masks.ensures.value) in (
      tt,
      tt,
      left_more u d it to left g,
      λ n e. (let all = subst (λ lo. Spread n old b s u lo c.loop-d.c) (after_here u d it to left g) (c.loop-d.invariant.3 n e) in
          spread_down n old b s u d it to left g _ (omega (arith, e)) (spread_mark n old b s u d c.loop-d.c (omega (arith, e)) p (omega (arith, p.0, small)) all)),
    )

pub returns : goal.returns
returns c =
    let old = c.args.c.now in
    let b = c.args.b.now in
    let n = c.args.fan.value in
    let s = c.args.s in
    let u = c.into_iter-d-iterator.result.whole in
    let w : u ≡ 2 ^ n - 1 - s = ap (λ (s : Submasks). s.whole) c.into_iter-d-iterator.ensures.into_iter_gives ∙ c.of-d-items.ensures.whole ∙ ap (λ k. k - 1 - s) c.masks.ensures.value in
    subst (λ u. Spread n old b s u 0 c.loop-d.c) w
    (subst (λ lo. Spread n old b s u lo c.loop-d.c) (none_left c.loop-d.d-iterator c.next.new.self c.in-None.ensures.steps) (c.loop-d.invariant.3 n (omega (arith, w, c.requires))))
