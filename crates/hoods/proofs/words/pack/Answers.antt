use Rattle.std.proofs.lemmas.List.{get_or-take}
use Rattle.std.proofs.Common.{◌+◌, false, ◌∙◌, ◌^◌, ◌<◌, ◌≤◌, get_or, sym, ap, subst, arith, pow_mono}
use Rattle.std.proofs.lemmas.Nat.{one_shl}
use Rattle.hoods.proofs.Packing.{Packed, packed_on, packed_off}
use Rattle.hoods.proofs.words.pack.Goals as goal
use Rattle.hoods.proofs.words.pack.Goals.{then-is_on, else-is_on}

pub overflow_add-words : goal.overflow_add-words
overflow_add-words c =
    let q = c.args.row in
    let m = c.loop-m.m in
    let x : get_or c.loop-m.words m 0 < 2 ^ q = subst (λ x. x < 2 ^ q) (sym (c.loop-m.invariant.1 m (omega arith))) (c.requires.below m (omega arith)) in
    let n : q ≤ 127 = omega (arith, c.requires.row) in
    let p : 2 ^ q ≤ 2 ^ 127 = pow_mono n in
    omega (arith, one_shl q 128 c.requires.row)

pub loop-m-preserved : goal.loop-m-preserved
loop-m-preserved c =
    let old = c.args.words.now in
    let t = c.args.c.now in
    let q = c.args.row in
    let m = c.loop-m.m in
    let l : m < c.masks.result = omega (arith, c.loop-m-test.true) in
    let here = get_or-take c.masks.result t m false l in
    elim c.if-is_on.branch [
      | then-is_on w ↦ subst (Packed old t q (m + 1)) (sym w.words-is)
          (packed_on old t q m c.loop-m.words _ (omega arith) (sym here ∙ w.if-is_on.true)
          (ap (λ x. get_or c.loop-m.words m 0 + x) (one_shl q 128 c.requires.row)) c.loop-m.invariant)
      | else-is_on w ↦ subst (Packed old t q (m + 1)) (sym w.words-is)
          (packed_off old t q m c.loop-m.words (sym here ∙ w.if-is_on.false) c.loop-m.invariant)
    ]
