use Rattle.std.proofs.Common.{◌≡◌, ◌+◌, ◌*◌, ◌/◌, ◌%◌, w64, get_or, bit_and, ap, ◌∙◌, ⊎_elim, arith, sym, ap₂}
use Rattle.std.specs.Int.{bit_at, bit_not, trailing_zeros}
use Rattle.std.proofs.lemmas.Bool.{cases_eq}
use Rattle.upstream.proofs.Nodes.{first_left, none_left}
use Rattle.upstream.proofs.node_set.NodeSet.first_outside.Goals as goal

pub returns-then-left-ne0-clause-some : goal.returns-then-left-ne0-clause-some
returns-then-left-ne0-clause-some c =
    let p = c.loop-place.place in
    let a = c.args.self.now.words in
    let b = c.args.other.now.words in
    let z = trailing_zeros w64 (bit_and (get_or a p 0) (bit_not w64 (get_or b p 0))) in
    let f = first_left (get_or a p 0) (get_or b p 0) (omega arith) (omega arith) (omega arith) in
    let small = f.0 in
    let d : (64 * p + z) / 64 ≡ p = omega arith in
    let m : (64 * p + z) % 64 ≡ z = omega arith in (
      omega arith,
      ap₂ (λ k i. bit_at (get_or a k 0) i) d m ∙ f.1,
      λ h. f.2 (sym (ap₂ (λ k i. bit_at (get_or b k 0) i) d m) ∙ h),
    )

pub loop-place-preserved : goal.loop-place-preserved
loop-place-preserved c n l h =
    let p = c.loop-place.place in
    let a = c.args.self.now.words in
    let b = c.args.other.now.words in
    ⊎_elim
    (λ (e : n / 64 ≡ p). ap (λ k. bit_at (get_or b k 0) (n % 64)) e ∙ none_left (get_or a p 0) (get_or b p 0) (omega arith) (omega arith) (n % 64) (omega arith) (sym (ap (λ k. bit_at (get_or a k 0) (n % 64)) e) ∙ h))
    (λ (ne : n / 64 ≡ p → ⊥). c.loop-place.invariant n (omega arith) h)
    (cases_eq (n / 64) p)
