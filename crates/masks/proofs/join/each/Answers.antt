use Rattle.std.proofs.Common.{◌+◌, false, sym, ◌∙◌, subst, arith}
use Rattle.std.proofs.lemmas.List.{get_or-take}
use Rattle.masks.specs.Steps.{Joined}
use Rattle.masks.proofs.Flags.{not_on}
use Rattle.masks.proofs.Scatter.{join_skip, join_more}
use Rattle.masks.proofs.join.each.Goals as goal
use Rattle.masks.proofs.join.each.Goals.{then-is_on, else-is_on}

pub loop-s-preserved : goal.loop-s-preserved
loop-s-preserved c =
    let n = c.args.fan.value in
    let a = c.args.a.now in
    let b = c.args.b.now in
    let s = c.loop-s.s in
    elim c.if-is_on.branch [
      | then-is_on w ↦ subst (Joined n a b (s + 1)) (sym w.c-is) (join_more n a b s c.loop-s.c w.spread.new.c (omega (arith, c.loop-s-test.true, c.masks-2.ensures.value)) (sym (get_or-take c.masks-2.result a s false (omega arith)) ∙ w.if-is_on.true) w.spread.ensures c.loop-s.invariant)
      | else-is_on w ↦ subst (Joined n a b (s + 1)) (sym w.c-is) (join_skip n a b s c.loop-s.c (not_on (sym (get_or-take c.masks-2.result a s false (omega arith)) ∙ w.if-is_on.false)) c.loop-s.invariant)
    ]
