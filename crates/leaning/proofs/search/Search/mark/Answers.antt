use Rattle.std.proofs.Common.{◌≡◌, ◌∷◌, [], ◌++◌, is_ok, refl, sym, subst, inl, inr, ⊎_elim, arith, length-set}
use Rattle.shapes.specs.Lists.{Member}
use Rattle.shapes.proofs.Lists.{member_push, member_last}
use Rattle.leaning.specs.Marking.{waiting}
use Rattle.leaning.proofs.Marking.{kept, more, rest, clean, apart, fewer, last, longer, waits, room}
use Rattle.leaning.proofs.search.Search.mark.Goals as goal

pub invariant_of-self-clause-marks_long : goal.invariant_of-self-clause-marks_long
invariant_of-self-clause-marks_long c = omega (arith, length-set c.args.self.now.marks.now c.place-place.result 1, c.args.self.now.marks_long)

pub invariant_of-self-clause-clean : goal.invariant_of-self-clause-clean
invariant_of-self-clause-clean c = clean c.args.self.now c.args.pair c.place-place.result c.place-place.ensures.value c.requires

pub invariant_of-self-clause-apart : goal.invariant_of-self-clause-apart
invariant_of-self-clause-apart c = apart c.args.self.now c.args.pair c.place-place.result c.place-place.ensures.value c.requires c.if-self-place-eq1.false

pub invariant_of-self-clause-waits : goal.invariant_of-self-clause-waits
invariant_of-self-clause-waits c =
    waits c.args.self.now c.args.pair c.place-place.result c.place-place.ensures.value c.requires c.if-self-place-eq1-2.false (is_ok c.push.result) _ c.push.ensures.answer c.push.ensures.after

pub invariant_of-self-clause-room : goal.invariant_of-self-clause-room
invariant_of-self-clause-room c =
    let r = room c.args.self.now c.args.pair c.place-place.result c.place-place.ensures.value c.requires c.if-self-place-eq1-2.false (is_ok c.push.result) _ c.push.ensures.answer c.push.ensures.after in
    omega (arith, r, c.push.ensures.kept)

pub returns-clause-change : goal.returns-clause-change
returns-clause-change c =
    let s = c.args.self.now in
    let pair = c.args.pair in
    let i = c.place-place.result in
    let at = c.place-place.ensures.value in
    let new = c.if-self-place-eq1-2.false in
    let end = last s pair i at c.requires new (is_ok c.push.result) _ c.push.ensures.answer c.push.ensures.after in
    let less = fewer s pair i at c.requires new (is_ok c.push.result) _ c.push.ensures.answer c.push.ensures.after in
    let longer = longer s pair i at c.requires new (is_ok c.push.result) _ c.push.ensures.answer c.push.ensures.after in
    record {
      frame = record { pairs = refl; held = refl; lent = refl; rest = rest s pair i at c.requires; kept = kept s pair i at c.requires };
      more = λ g m. ⊎_elim inl (λ (e : g ≡ pair). inr (e, subst (Member g) (sym end) (subst (λ x. Member x (waiting s ++ (pair ∷ []))) (sym e) (member_last (waiting s) pair)))) (more s pair i at c.requires g m);
      stays = λ g m. subst (Member g) (sym end) (member_push (waiting s) pair m);
      less = omega arith;
    }
