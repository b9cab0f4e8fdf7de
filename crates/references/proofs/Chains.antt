-- What a search and a test over a chain of iterators answer, by number. Assumes nothing.
use Rattle.std.proofs.Common.{◌≡◌, ℕ, ◌<◌, ◌≤◌, Bool, true, false, List, length, get_or, None, Some, Decides, Option, sym, refl, ap, ◌∙◌, subst, arith, MatchBool, MatchOption}
use Rattle.std.specs.List.{zip, AllWithin, HoldsAt}
use Rattle.std.proofs.lemmas.Bool.{false≢true}
use Rattle.std.proofs.lemmas.Slice.Zip.{length-zip, get_or-zip}
use Rattle.references.specs.Cycles.{Lowest}

pub lowest : (o : Option ℕ) (f : ℕ → Bool)
    → MatchOption o ((k : ℕ) → 0 ≤ k → k < 32 → f k ≡ false) (λ i. (0 ≤ i) × (i < 32) × (f i ≡ true) × ((k : ℕ) → 0 ≤ k → k < i → f k ≡ false))
    → Lowest o f
lowest None f h = λ k. h k (omega arith)
lowest (Some i) f h = (h.1, h.2, λ j. h.3 j (omega arith))

-- every pair of two lists side by side passes, where the first is as long as the second or longer, and its elements are those of f
pub all_pairs : {A B : Type 0} (r : Bool) (P : A × B → Type 0) (xs : List A) (ys : List B) (d : A) (e : B) (f : ℕ → A) → length ys ≤ length xs
    → ((k : ℕ) → k < length xs → get_or xs k d ≡ f k)
    → MatchBool r (AllWithin P (zip xs ys) 0 (length (zip xs ys))) ((k : ℕ) × (k < length (zip xs ys)) × HoldsAt (λ p. P p → ⊥) (zip xs ys) k)
    → Decides r ((k : ℕ) → k < length ys → P (f k, get_or ys k e))
all_pairs {A} {B} r P xs ys d e f h at m = pick r m
  where
    same : (k : ℕ) → k < length ys → get_or (zip xs ys) k (d, e) ≡ (f k, get_or ys k e)
    same k l = get_or-zip xs ys k (d, e) (omega arith) l ∙ ap (λ x. (x, get_or ys k e)) (at k (omega arith))

    pick : (r : Bool) → MatchBool r (AllWithin P (zip xs ys) 0 (length (zip xs ys))) ((k : ℕ) × (k < length (zip xs ys)) × HoldsAt (λ p. P p → ⊥) (zip xs ys) k)
        → Decides r ((k : ℕ) → k < length ys → P (f k, get_or ys k e))
    pick true m = (λ _ k l. subst P (same k l) (m k (d, e) (omega arith) (omega (arith, length-zip xs ys))), λ _. refl)
    pick false m = (
      λ e. absurd (false≢true e),
      λ all. let l : m.0 < length ys = omega (arith, m.1, length-zip xs ys) in absurd (m.2 (d, e) (subst P (sym (same m.0 l)) (all m.0 l))),
    )
