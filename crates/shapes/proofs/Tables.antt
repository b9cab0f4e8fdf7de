-- Tables made from a typing, and counts that fall when a pair is taken out.
use Rattle.std.proofs.Common.{◌≡◌, ℕ, zero, suc, ◌<◌, ◌≤◌, Bool, true, false, cond, [], map, get_or, sym, refl, ap, ◌∙◌, subst, arith}
use native.Mathlib.Decide.{dec_lt}
use Rattle.std.specs.List.{range_with_len}
use Rattle.std.proofs.lemmas.List.{get_or_past}
use Rattle.std.proofs.lemmas.List.FromFn.{length-map-range_with_len, get_or-map-range_with_len}
use Rattle.shapes.specs.Typing.{Typing, In}
use Rattle.shapes.specs.Tables.{Table, shown, total, count}
use Rattle.shapes.proofs.Decide.{false_is_not}

abbrev pub tabulate : ℕ → ℕ → Typing → Table
tabulate N K τ = map (λ n. map (τ n) (range_with_len 0 K)) (range_with_len 0 N)

module _ (N K : ℕ) (τ : Typing) where
  shown_inside : (n l : ℕ) → n < N → l < K → shown (tabulate N K τ) n l ≡ τ n l
  shown_inside n l h g =
      ap (λ r. get_or r l false) (get_or-map-range_with_len (λ n. map (τ n) (range_with_len 0 K)) 0 N n n [] h (omega arith)) ∙ get_or-map-range_with_len (τ n) 0 K l l false g (omega arith)

  pub shown_from : (n l : ℕ) → n < N → l < K → In τ n l → In (shown (tabulate N K τ)) n l
  shown_from n l h g y = shown_inside n l h g ∙ y

  pub shown_gives : (n l : ℕ) → In (shown (tabulate N K τ)) n l → (n < N) × (l < K) × In τ n l
  shown_gives n l h = pick (dec_lt n N) (dec_lt l K)
    where
      past_rows : ¬ (n < N) → shown (tabulate N K τ) n l ≡ false
      past_rows f =
          let e = length-map-range_with_len (λ n. map (τ n) (range_with_len 0 K)) 0 N in
          ap (λ r. get_or r l false) (get_or_past (tabulate N K τ) n [] (omega arith))

      past_columns : n < N → ¬ (l < K) → shown (tabulate N K τ) n l ≡ false
      past_columns g f =
          let e = length-map-range_with_len (τ n) 0 K in
          ap (λ r. get_or r l false) (get_or-map-range_with_len (λ n. map (τ n) (range_with_len 0 K)) 0 N n n [] g (omega arith)) ∙ get_or_past (map (τ n) (range_with_len 0 K)) l false (omega arith)

      pick : Dec (n < N) → Dec (l < K) → (n < N) × (l < K) × In τ n l
      pick (yes p) (yes q) = (p, q, sym (shown_inside n l p q) ∙ h)
      pick (yes p) (no q) = false_is_not (sym (past_columns p q) ∙ h)
      pick (no p) q = false_is_not (sym (past_rows p) ∙ h)

pub total_le : (f g : ℕ → ℕ) (m : ℕ) → ((k : ℕ) → f k ≤ g k) → total f m ≤ total g m
total_le f g zero h = omega arith
total_le f g (suc m) h = omega (arith, h m, total_le f g m h)

pub total_less : (f g : ℕ → ℕ) (m : ℕ) → ((k : ℕ) → f k ≤ g k) → (j : ℕ) → j < m → f j < g j → total f m < total g m
total_less f g zero h j l s = absurd (omega arith)
total_less f g (suc m) h j l s =
    elim (dec_lt j m) [
      | yes r ↦ omega (arith, h m, total_less f g m h j r s)
      | no r ↦ let e : j ≡ m = omega arith in omega (arith, subst (λ k. f k < g k) e s, total_le f g m h)
    ]

pub one_le : (a b : Bool) → (a ≡ true → b ≡ true) → cond a 1 0 ≤ cond b 1 0
one_le true true f = omega arith
one_le true false f = false_is_not (f refl)
one_le false true f = omega arith
one_le false false f = omega arith

pub one_less : (a b : Bool) → ¬ (a ≡ true) → b ≡ true → cond a 1 0 < cond b 1 0
one_less true b f g = absurd (f refl)
one_less false true f g = omega arith
one_less false false f g = false_is_not g

-- a typing within another that lacks one of its pairs has fewer
pub count_less : (N K : ℕ) (τ υ : Typing) → ((n l : ℕ) → In υ n l → In τ n l) → (n l : ℕ) → n < N → l < K → In τ n l → ¬ In υ n l → count N K υ < count N K τ
count_less N K τ υ f n l hn hl i o =
    total_less (λ n. total (λ l. cond (υ n l) 1 0) K) (λ n. total (λ l. cond (τ n l) 1 0) K) N
    (λ m. total_le (λ l. cond (υ m l) 1 0) (λ l. cond (τ m l) 1 0) K (λ k. one_le (υ m k) (τ m k) (f m k)))
    n hn
    (total_less (λ l. cond (υ n l) 1 0) (λ l. cond (τ n l) 1 0) K (λ k. one_le (υ n k) (τ n k) (f n k)) l hl (one_less (υ n l) (τ n l) o i))
