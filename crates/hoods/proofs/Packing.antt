-- A word with one more row.
use Rattle.std.proofs.Common.{◌≡◌, ℕ, suc, ◌+◌, ◌-◌, ◌*◌, ◌/◌, ◌%◌, ◌^◌, ◌<◌, ◌≤◌, Bool, true, false, ◌≢◌, ◌↔◌, List, length, get_or, set, sym, refl, ap, ◌∙◌, subst, inl, inr, pow-suc, arith, get_or-set_other, get_or-set_same, pow_pos, pow-add}
use native.Mathlib.Nat.{add-mul-div_right}
use Rattle.std.proofs.lemmas.Nat.{shr_high}
use Rattle.std.proofs.lemmas.Bool.{cases_eq}
use Rattle.masks.specs.Masks.{Bit}
use Rattle.masks.proofs.Bits.{no_bit}
use Rattle.masks.proofs.Flags.{not_on}
use Rattle.hoods.specs.Words.{with_row}

-- the words below m have the row, and the others are as they were
abbrev pub Packed : List ℕ → List Bool → ℕ → ℕ → List ℕ → Type 0
Packed old c q m new =
    ((k : ℕ) → k < m → get_or new k 0 ≡ with_row (get_or c k false) q (get_or old k 0)) × ((k : ℕ) → m ≤ k → get_or new k 0 ≡ get_or old k 0)

pub packed_on : (old : List ℕ) (c : List Bool) (q m : ℕ) (new : List ℕ) (v : ℕ) → m < length new → get_or c m false ≡ true → v ≡ get_or new m 0 + 2 ^ q
    → Packed old c q m new → Packed old c q (m + 1) (set new m v)
packed_on old c q m new v l h e (f, g) = (
  λ k j. elim (cases_eq k m) [
    | inl w ↦ subst (λ k. get_or (set new m v) k 0 ≡ with_row (get_or c k false) q (get_or old k 0)) (sym w)
        (rw get_or-set_same (e ∙ ap (λ x. x + 2 ^ q) (g m (omega arith)) ∙ sym (ap (λ b. with_row b q (get_or old m 0)) h)))
    | inr d ↦ (let ne : k ≢ m = d in rw get_or-set_other (f k (omega arith)))
  ],
  λ k j. (let ne : k ≢ m = omega arith in rw get_or-set_other (g k (omega arith))),
)

pub packed_off : (old : List ℕ) (c : List Bool) (q m : ℕ) (new : List ℕ) → get_or c m false ≡ false → Packed old c q m new → Packed old c q (m + 1) new
packed_off old c q m new h (f, g) = (
  λ k j. elim (cases_eq k m) [
    | inl w ↦ subst (λ k. get_or new k 0 ≡ with_row (get_or c k false) q (get_or old k 0)) (sym w)
        (g m (omega arith) ∙ sym (ap (λ b. with_row b q (get_or old m 0)) h))
    | inr d ↦ f k (omega arith)
  ],
  λ k j. g k (omega arith),
)

module _ (q x : ℕ) (below : x < 2 ^ q) where
  new_bit : Bit (x + 2 ^ q) q
  new_bit =
      let e : x + 2 ^ q ≡ 1 * 2 ^ q + x = omega arith in
      ap (λ w. w / 2 ^ q % 2) e ∙ ap (λ w. w % 2) (shr_high 1 q x below)

  old_bit : (p : ℕ) → p < q → (x + 2 ^ q) / 2 ^ p % 2 ≡ x / 2 ^ p % 2
  old_bit p h =
      let e : 2 ^ q ≡ 2 ^ (q - 1 - p) * 2 * 2 ^ p =
      (let z : q ≡ suc (q - 1 - p) + p = omega arith in ap (λ n. 2 ^ n) z ∙ pow-add 2 (suc (q - 1 - p)) p ∙ ap (λ n. n * 2 ^ p) (pow-suc 2 (q - 1 - p))) in
      ap (λ n. (x + n) / 2 ^ p % 2) e ∙ ap (λ n. n % 2) (add-mul-div_right x (2 ^ (q - 1 - p) * 2) (pow_pos p)) ∙ omega arith

  pub row_is : (v : Bool) → Bit (with_row v q x) q ↔ (v ≡ true)
  row_is true = (λ g. refl, λ g. new_bit)
  row_is false = (λ g. absurd (omega (arith, no_bit q x below)), λ g. not_on refl g)

  pub row_was : (v : Bool) (p : ℕ) → p < q → Bit (with_row v q x) p ↔ Bit x p
  row_was true p l = (λ g. sym (old_bit p l) ∙ g, λ g. old_bit p l ∙ g)
  row_was false p l = (λ g. g, λ g. g)

  pub row_below : (v : Bool) → with_row v q x < 2 ^ suc q
  row_below true = omega (arith, pow-suc 2 q)
  row_below false = omega (arith, pow-suc 2 q)
