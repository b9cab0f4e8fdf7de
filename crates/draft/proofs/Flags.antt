-- Flags of the rows that a row names.
use Rattle.std.proofs.Common.{◌≡◌, ℕ, ◌+◌, ◌<◌, Bool, true, false, ◌⊎◌, ◌↔◌, List, length, get_or, set, Some, None, Option, sym, ap, ◌∙◌, subst, inl, inr, ⊎_elim, arith, get_or-set_other, get_or-set_same}
use Rattle.std.proofs.lemmas.Bool.{cases_eq}

-- one flag more
pub flag_set : (flags : List Bool) (x p : ℕ) → x < length flags → (get_or (set flags x true) p false ≡ true) ↔ ((get_or flags p false ≡ true) ⊎ (x ≡ p))
flag_set flags x p l =
    ⊎_elim
    (λ (e : p ≡ x). (λ _. inr (sym e), λ _. subst (λ k. get_or (set flags x true) k false ≡ true) (sym e) (get_or-set_same flags x true false l)))
    (λ (d : p ≡ x → ⊥). (
      λ o. inl (sym (get_or-set_other flags x p true false d) ∙ o),
      λ h. ⊎_elim (λ (o : get_or flags p false ≡ true). get_or-set_other flags x p true false d ∙ o) (λ (e : x ≡ p). absurd (d (sym e))) h,
    ))
    (cases_eq p x)

-- the row p is one of the first i of those that are named
abbrev pub Told : List (Option ℕ) → ℕ → ℕ → Type 0
Told names i p = (p < 128) × ((j : ℕ) × (j < i) × (get_or names j None ≡ Some p))

-- the flags are the old ones and those of the first i rows that are named
abbrev pub Flagged : List Bool → List (Option ℕ) → ℕ → List Bool → Type 0
Flagged old names i new = (p : ℕ) → (get_or new p false ≡ true) ↔ ((get_or old p false ≡ true) ⊎ Told names i p)

module _ (old : List Bool) (names : List (Option ℕ)) where
  pub flagged_none : Flagged old names 0 old
  flagged_none p = (inl, λ h. ⊎_elim (λ (o : get_or old p false ≡ true). o) (λ (t : Told names 0 p). absurd (omega (arith, t.1.1))) h)

  more : (i p : ℕ) → Told names i p → Told names (i + 1) p
  more i p t = (t.0, (t.1.0, omega (arith, t.1.1), t.1.2))

  fewer : (i p : ℕ) → ((get_or names i None ≡ Some p) → ⊥) → Told names (i + 1) p → Told names i p
  fewer i p other t =
      let d : t.1.0 ≡ i → ⊥ = λ e. other (sym (ap (λ k. get_or names k None) e) ∙ t.1.2) in
      (t.0, (t.1.0, omega (arith, d, t.1.1), t.1.2))

  pub flagged_skip : (i : ℕ) (new : List Bool) → ((p : ℕ) → p < 128 → get_or names i None ≡ Some p → ⊥) → Flagged old names i new → Flagged old names (i + 1) new
  flagged_skip i new none f p = (
    λ o. ⊎_elim inl (λ (t : Told names i p). inr (more i p t)) ((f p).0 o),
    λ h. ⊎_elim (λ (o : get_or old p false ≡ true). (f p).1 (inl o)) (λ (t : Told names (i + 1) p). (f p).1 (inr (fewer i p (none p t.0) t))) h,
  )

  pub flagged_more : (i x : ℕ) (new : List Bool) → get_or names i None ≡ Some x → x < 128 → x < length new → Flagged old names i new
      → Flagged old names (i + 1) (set new x true)
  flagged_more i x new e l m f p =
      let one = flag_set new x p m in (
        λ o. ⊎_elim
            (λ (q : get_or new p false ≡ true). ⊎_elim inl (λ (t : Told names i p). inr (more i p t)) ((f p).0 q))
            (λ (s : x ≡ p). inr (omega (arith, s), (i, omega arith, e ∙ ap (λ y. Some y) s))) (one.0 o),
        λ h. ⊎_elim
            (λ (o : get_or old p false ≡ true). one.1 (inl ((f p).1 (inl o))))
            (λ (t : Told names (i + 1) p). ⊎_elim
            (λ (s : p ≡ x). one.1 (inr (sym s)))
            (λ (d : p ≡ x → ⊥). one.1 (inl ((f p).1 (inr (fewer i p (λ g. d (same e g)) t)))))
            (cases_eq p x)) h,
      )
    where
      same : {o : Option ℕ} → o ≡ Some x → o ≡ Some p → p ≡ x
      same e g = let s : ◌≡◌ {A = Option ℕ} (Some p) (Some x) = sym g ∙ e in cc
