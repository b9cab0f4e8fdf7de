use Rattle.std.proofs.Common.{◌≡◌, ℕ, ◌+◌, ◌-◌, ◌*◌, ◌%◌, ◌^◌, ◌<◌, ◌≤◌, ◌↔◌, false, sym, ◌∙◌, subst, arith, pow_mono}
use Rattle.std.proofs.lemmas.List.{get_or-take}
use Rattle.std.proofs.lemmas.Nat.{one_shl, pow_below}
use Rattle.masks.specs.Masks.{On, Among}
use Rattle.masks.proofs.Flags.{either, not_on, among_more, among_set}
use Rattle.masks.proofs.plain.single.Goals as goal
use Rattle.masks.proofs.plain.single.Goals.{then-is_admitted, else-is_admitted}

-- the place j of n as a mask, in 64 bits
place : (n j : ℕ) → n ≤ 12 → j < n → (1 * 2 ^ (n - 1 - j) % 2 ^ 64 ≡ 2 ^ (n - 1 - j)) × (2 ^ (n - 1 - j) < 4096)
place n j few h =
    let l : n - 1 - j < 64 = omega arith in
    let p : 2 ^ n ≤ 2 ^ 12 = pow_mono few in
    (one_shl (n - 1 - j) 64 l, omega (arith, pow_below (n - 1 - j) n (omega arith)))

pub bounds-c-fan : goal.bounds-c-fan
bounds-c-fan c = let p = place c.args.fan.value c.loop-j.j c.args.fan.few (omega (arith, c.loop-j-test.true, c.args.fan.few)) in omega (arith, p.0, p.1)

pub loop-j-preserved : goal.loop-j-preserved
loop-j-preserved c = λ k h.
    let t = c.args.admitted.now in
    let n = c.args.fan.value in
    let j = c.loop-j.j in
    let p = place n j c.args.fan.few (omega (arith, c.loop-j-test.true, c.args.fan.few)) in
    elim c.if-is_admitted.branch [
      | then-is_admitted w ↦ subst (λ l. On l k ↔ Among t n (j + 1) k) (sym w.c-is)
          (among_set t c.loop-j.c n j _ k (omega (arith, p.0, p.1)) p.0 (sym (get_or-take n t j false (omega arith)) ∙ w.if-is_admitted.true) (c.loop-j.invariant k h))
      | else-is_admitted w ↦ subst (λ l. On l k ↔ Among t n (j + 1) k) (sym w.c-is)
          (either (c.loop-j.invariant k h) (among_more t n j k (not_on (sym (get_or-take n t j false (omega arith)) ∙ w.if-is_admitted.false))))
    ]
