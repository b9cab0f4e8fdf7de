use Rattle.std.proofs.Common.{◌≡◌, ℕ, suc, min, ◌+◌, ◌-◌, ◌*◌, ◌^◌, ◌<◌, ◌≤◌, Bool, false, List, get_or, take, drop, sym, ap, ◌∙◌, subst, add-one, arith, pow-suc, pow_mono}
use Rattle.std.proofs.lemmas.List.{get_or-take, get_or-drop}
use Rattle.masks.specs.Steps.{More, Begun}
use Rattle.masks.proofs.Flags.{not_on}
use Rattle.masks.proofs.Tally.{begun_skip, begun_more}
use Rattle.masks.proofs.parts.add_parts.Goals as goal
use Rattle.masks.proofs.parts.add_parts.Goals.{then-is_on, else-is_on}

-- the next place is there too
double : (i n : ℕ) → n ≤ 12 → i < n → 2 * 2 ^ i ≤ 4096
double i n few h =
    let l : suc i ≤ 12 = omega arith in
    let p : 2 ^ suc i ≤ 2 ^ 12 = pow_mono l in
    omega (arith, pow-suc 2 i)

top_is : (t v place n : ℕ) → t ≡ 2 ^ v → v ≡ min place 12 → n ≤ 12 → place < n → t ≡ 2 ^ place
top_is t v place n e f few h = let w : v ≡ place = omega arith in e ∙ ap (λ k. 2 ^ k) w

-- an element of a part of a list
part_at : (a : List Bool) (top i : ℕ) → i < 2 * top - top → get_or (take (2 * top - top) (drop top a)) i false ≡ get_or a (top + i) false
part_at a top i h = get_or-take (2 * top - top) (drop top a) i false h ∙ get_or-drop top a i false

pub slice_bounds-is_on-items-end : goal.slice_bounds-is_on-items-end
slice_bounds-is_on-items-end c =
    let t = top_is c.masks-top.result c.new.result.value c.args.place c.args.fan.value c.masks-top.ensures.value c.new.ensures c.args.fan.few c.requires.place in
    omega (arith, t, double c.args.place c.args.fan.value c.args.fan.few c.requires.place)

pub loop-low-init : goal.loop-low-init
loop-low-init c =
    let t = top_is c.masks-top.result c.new.result.value c.args.place c.args.fan.value c.masks-top.ensures.value c.new.ensures c.args.fan.few c.requires.place in
    let z : 2 ^ c.args.place ≡ c.masks-top.result + 0 = omega (arith, t) in
    subst (Begun c.args.a.now c.args.counts.now c.args.fan.value) z c.requires.begun

pub loop-low-preserved : goal.loop-low-preserved
loop-low-preserved c =
    let t = top_is c.masks-top.result c.new.result.value c.args.place c.args.fan.value c.masks-top.ensures.value c.new.ensures c.args.fan.few c.requires.place in
    let a = c.args.a.now in
    let n = c.args.fan.value in
    let i = c.args.place in
    let top = c.masks-top.result in
    let low = c.loop-low.low in
    let small : low < 2 * top - top = omega (arith, c.loop-low-test.true) in
    let p = top + low in
    let next : p + 1 ≡ top + (low + 1) = omega arith in
    elim c.if-is_on.branch [
      | then-is_on w ↦
          (let rest : top - 1 - low ≡ 2 * 2 ^ i - 1 - p = omega (arith, t) in
          let counted = subst (λ r. More c.loop-low.counts p r 0 w.add_part.new.counts) rest w.add_part.ensures in
          subst (λ k. Begun a k n (top + (low + 1))) (sym w.counts-is)
          (subst (Begun a w.add_part.new.counts n) next
          (begun_more a c.loop-low.counts w.add_part.new.counts n i p (omega (arith, t)) (omega (arith, t, small)) (sym (part_at a top low small) ∙ w.if-is_on.true) counted c.loop-low.invariant)))
      | else-is_on w ↦ subst (λ k. Begun a k n (top + (low + 1))) (sym w.counts-is)
          (subst (Begun a c.loop-low.counts n) next
          (begun_skip a c.loop-low.counts n p (not_on (sym (part_at a top low small) ∙ w.if-is_on.false)) c.loop-low.invariant))
    ]

pub returns : goal.returns
returns c =
    let t = top_is c.masks-top.result c.new.result.value c.args.place c.args.fan.value c.masks-top.ensures.value c.new.ensures c.args.fan.few c.requires.place in
    let all : c.masks-top.result + c.loop-low.low ≡ 2 ^ (c.args.place + 1) = rw add-one (omega (arith, t, pow-suc 2 c.args.place, c.loop-low-test.false)) in
    subst (Begun c.args.a.now c.loop-low.counts c.args.fan.value) all c.loop-low.invariant
