use Rattle.std.proofs.Common.{◌≡◌, true, false, [], ◌∷◌, ◌++◌, set, is_ok, sym, ap, ◌∙◌, subst, arith}
use Rattle.stack.specs.Entries.{entries, pushed}
use Rattle.upstream.specs.Search.{marked, Grown}
use Rattle.upstream.proofs.Marking.{grown_new, slot_free}
use Rattle.upstream.proofs.search.mark.Goals as goal

pub returns-then-not-marks-place-clause-change : goal.returns-then-not-marks-place-clause-change
returns-then-not-marks-place-clause-change c =
    let ms = c.args.marks.now in
    let w = c.args.waiting.now in
    let es = entries w.slots.now w.len in
    let i = c.args.node in
    let unmarked : marked ms i ≡ false = subst (λ k. marked ms k ≡ false) c.from-place.ensures c.if-not-marks-place.true in
    let ok : is_ok c.push.result ≡ true =
    c.push.ensures.answer ∙ slot_free ms es i (omega arith) unmarked w.slots.now w.len w.fits c.requires.room in
    let e : entries c.push.new.self.slots.now c.push.new.self.len ≡ es ++ (i ∷ []) =
    c.push.ensures.after ∙ ap (λ b. pushed b es i) ok in
    rw c.from-place.ensures (subst (Grown (λ n. n ≡ i) ms es (set ms i true)) (sym e) (grown_new ms es i (omega arith) unmarked))
