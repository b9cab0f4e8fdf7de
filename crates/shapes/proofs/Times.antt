-- A repetition by its parts that are not empty: the rest of the parts only fill up to the least number.
use Rattle.std.proofs.Common.{◌≡◌, ℕ, zero, suc, ◌+◌, ◌-◌, ◌<◌, ◌≤◌, ◌⊎◌, ◌↔◌, List, [], ◌∷◌, length, Option, sym, refl, subst, inl, inr, arith}
use native.Mathlib.Decide.{dec_le}
use Rattle.shapes.specs.Lists.{Parts}
use Rattle.shapes.specs.Meaning.{AtMost}
use Rattle.shapes.proofs.Lists.{split_none_left, split_length, parts_more}
use Rattle.shapes.proofs.Decide.{at_most_less}

module _ {A : Type 0} (Q : List A → Type 0) where
  -- a part that has Q and an element
  abbrev pub Filled : List A → Type 0
  Filled [] = ⊥
  Filled (x ∷ xs) = Q (x ∷ xs)

  pub filled_parts_few : (k : ℕ) (zs : List A) → Parts Filled k zs → k ≤ length zs
  filled_parts_few zero zs p = omega arith
  filled_parts_few (suc k) zs ([], ys, s, q, r) = absurd q
  filled_parts_few (suc k) zs (x ∷ xs, ys, s, q, r) = omega (arith, split_length s, filled_parts_few k ys r)

  drop_empty : (k : ℕ) (zs : List A) → Parts Q k zs → (j : ℕ) × (j ≤ k) × ((j ≡ k) ⊎ Q []) × Parts Filled j zs
  drop_empty zero zs p = (0, omega arith, inl refl, p)
  drop_empty (suc k) zs ([], ys, s, q, r) =
      let h = drop_empty k ys r in
      (h.0, omega (arith, h.1), inr q, subst (Parts Filled h.0) (sym (split_none_left s)) h.3)
  drop_empty (suc k) zs (x ∷ xs, ys, s, q, r) =
      let h = drop_empty k ys r in
      (suc h.0, omega (arith, h.1), elim h.2 [ inl e ↦ inl (omega arith) | inr e ↦ inr e ], (x ∷ xs, ys, s, q, h.3))

  forget_filled : (k : ℕ) (zs : List A) → Parts Filled k zs → Parts Q k zs
  forget_filled zero zs p = p
  forget_filled (suc k) zs ([], ys, s, q, r) = absurd q
  forget_filled (suc k) zs (x ∷ xs, ys, s, q, r) = (x ∷ xs, ys, s, q, forget_filled k ys r)

  pub times_filled : (least : ℕ) (most : Option ℕ) → AtMost least most → (zs : List A)
      → ((k : ℕ) × (least ≤ k) × AtMost k most × Parts Q k zs) ↔ ((j : ℕ) × AtMost j most × ((least ≤ j) ⊎ Q []) × Parts Filled j zs)
  times_filled least most ok zs = (λ h. to h.0 h.1 h.2 (drop_empty h.0 zs h.3), λ h. from h.0 h.1 h.2 (forget_filled h.0 zs h.3) (dec_le least h.0))
    where
      enough : (k j : ℕ) → least ≤ k → (j ≡ k) ⊎ Q [] → (least ≤ j) ⊎ Q []
      enough k j l (inl e) = inl (omega arith)
      enough k j l (inr q) = inr q

      to : (k : ℕ) → least ≤ k → AtMost k most → (j : ℕ) × (j ≤ k) × ((j ≡ k) ⊎ Q []) × Parts Filled j zs
          → (j : ℕ) × AtMost j most × ((least ≤ j) ⊎ Q []) × Parts Filled j zs
      to k l u h = (h.0, at_most_less h.0 k most h.1 u, enough k h.0 l h.2, h.3)

      fill : (j : ℕ) → j < least → Q [] → Parts Q j zs → Parts Q least zs
      fill j l q p = let e : (least - j) + j ≡ least = omega arith in subst (λ n. Parts Q n zs) e (parts_more Q (least - j) j zs q p)

      from : (j : ℕ) → AtMost j most → (least ≤ j) ⊎ Q [] → Parts Q j zs → Dec (least ≤ j) → (k : ℕ) × (least ≤ k) × AtMost k most × Parts Q k zs
      from j u c p (yes l) = (j, l, u, p)
      from j u (inl l) p (no f) = (j, l, u, p)
      from j u (inr q) p (no f) = (least, omega arith, ok, fill j (omega arith) q p)
