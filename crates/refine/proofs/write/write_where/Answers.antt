use Rattle.std.proofs.Common.{◌≡◌, ◌+◌, Bool, true, List, get_or, sym, ◌∙◌, subst, arith}
use Rattle.std.proofs.lemmas.List.{get_or_default, set-get_or}
use Rattle.refine.specs.Writing.{WrittenUpTo}
use Rattle.refine.proofs.Writing.{written_set, written_kept}
use Rattle.refine.proofs.write.write_where.Goals as goal
use Rattle.refine.proofs.write.write_where.Goals.{then-test, else-test}

pub loop-place-preserved : goal.loop-place-preserved
loop-place-preserved g c =
    let l = c.loop-place in
    let x = c.args.items.now in
    let post = goal.F-post g c.args.test in
    let here : get_or l.items l.place c.index-items-place.result ≡ get_or x l.place c.args.value =
    get_or_default l.items l.place c.index-items-place.result c.args.value (omega arith) ∙ l.invariant.past l.place (omega arith) in
    let tested : post l.place (get_or x l.place c.args.value) c.test.result = subst (λ v. post l.place v c.test.result) here c.test.ensures in
    let next : Bool → List g.row.T.Denot → Type 0 = WrittenUpTo post c.args.value x (l.place + 1) in
    elim c.if-test.branch [
      | then-test w ↦
          subst (λ b. next b c.if-test.items) (sym w.written-is) (subst (next true) (sym w.items-is) (
          written_set post c.args.value x l.place l.written l.items l.invariant (omega arith) (subst (post l.place (get_or x l.place c.args.value)) w.if-test.true tested)
          ))
      | else-test w ↦
          subst (λ b. next b c.if-test.items) (sym w.written-is) (subst (next l.written) (sym (w.items-is ∙ set-get_or l.items l.place c.index-items-place.result)) (
          written_kept post c.args.value x l.place l.written l.items l.invariant (subst (post l.place (get_or x l.place c.args.value)) w.if-test.false tested)
          ))
    ]
