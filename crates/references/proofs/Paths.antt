-- Ways of steps are paths of references, and the other way round. Assumes nothing.
use Rattle.std.proofs.Common.{◌≡◌, ℕ, zero, suc, ◌<◌, Bool, true, eqb, ◌⊎◌, Decides, refl, subst, inl, inr, ⊎_elim, arith}
use native.Mathlib.Decide.{dec_lt}
use Rattle.std.proofs.lemmas.Bool.{and_parts, and_from, or_cases, or_left, or_right, eqb-true, eq-eqb}
use Rattle.shapes.specs.Expr.{Schema}
use Rattle.shapes.specs.References.{Refers, Path, here, step}
use Rattle.references.specs.Ways.{way}

pub path_join : {S : Schema} {l j k : ℕ} → Path S l j → Path S j k → Path S l k
path_join here q = q
path_join (step r p) q = step r (path_join p q)

module _ (R : ℕ → ℕ → Bool) where
  -- a way by labels below suc m is one by labels below m, or two of them that meet in m
  split_way : (m l k : ℕ) → way R (suc m) l k ≡ true → (way R m l k ≡ true) ⊎ ((way R m l m ≡ true) × (way R m m k ≡ true))
  unfolding way
  split_way m l k e = ⊎_elim (λ (h : way R m l k ≡ true). inl h) (λ h. inr (and_parts _ _ h)) (or_cases _ _ e)

  pub way_more : (m l k : ℕ) → way R 0 l k ≡ true → way R m l k ≡ true
  unfolding way
  way_more zero l k w = w
  way_more (suc m) l k w = or_left _ _ (way_more m l k w)

  way_short : (m l k : ℕ) → way R m l k ≡ true → way R (suc m) l k ≡ true
  unfolding way
  way_short m l k w = or_left _ _ w

  way_by : (m l k : ℕ) → way R m l m ≡ true → way R m m k ≡ true → way R (suc m) l k ≡ true
  unfolding way
  way_by m l k v w = or_right _ _ (and_from _ _ v w)

  way_into : (m l : ℕ) → way R (suc m) l m ≡ true → way R m l m ≡ true
  way_into m l e = ⊎_elim (λ (h : way R m l m ≡ true). h) (λ h. h.0) (split_way m l m e)

  way_out : (m k : ℕ) → way R (suc m) m k ≡ true → way R m m k ≡ true
  way_out m k e = ⊎_elim (λ (h : way R m m k ≡ true). h) (λ h. h.1) (split_way m m k e)

  pub way_join : (m l j k : ℕ) → j < m → way R m l j ≡ true → way R m j k ≡ true → way R m l k ≡ true
  way_join zero l j k h v w = absurd (omega arith)
  way_join (suc m) l j k h v w = pick (dec_lt j m) (way_join m) (split_way m l j v) (split_way m j k w)
    where
      pick : Dec (j < m) → ((l j k : ℕ) → j < m → way R m l j ≡ true → way R m j k ≡ true → way R m l k ≡ true)
          → (way R m l j ≡ true) ⊎ ((way R m l m ≡ true) × (way R m m j ≡ true))
          → (way R m j k ≡ true) ⊎ ((way R m j m ≡ true) × (way R m m k ≡ true)) → way R (suc m) l k ≡ true
      pick (no g) ih _ _ =
          let e : j ≡ m = omega arith in
          way_by m l k (way_into m l (subst (λ x. way R (suc m) l x ≡ true) e v)) (way_out m k (subst (λ x. way R (suc m) x k ≡ true) e w))
      pick (yes g) ih (inl a) (inl b) = way_short m l k (ih l j k g a b)
      pick (yes g) ih (inl a) (inr b) = way_by m l k (ih l j m g a b.0) b.1
      pick (yes g) ih (inr a) (inl b) = way_by m l k a.0 (ih m j k g a.1 b)
      pick (yes g) ih (inr a) (inr b) = way_by m l k a.0 b.1

module _ (S : Schema) (R : ℕ → ℕ → Bool) (d : (l k : ℕ) → Decides (R l k) (Refers S l k)) where
  pub way_path : (m l k : ℕ) → way R m l k ≡ true → Path S l k
  unfolding way
  way_path zero l k e =
      ⊎_elim (λ (h : eqb l k ≡ true). subst (Path S l) (eqb-true l k h) here) (λ (h : R l k ≡ true). step ((d l k).0 h) here) (or_cases _ _ e)
  way_path (suc m) l k e =
      ⊎_elim (λ (h : way R m l k ≡ true). way_path m l k h) (λ h. path_join (way_path m l m h.0) (way_path m m k h.1))
      (split_way R m l k e)

  pub path_way : (n : ℕ) → ((l k : ℕ) → Refers S l k → k < n) → {l k : ℕ} → Path S l k → way R n l k ≡ true
  unfolding way
  path_way n known {l} here = way_more R n l l (or_left _ _ (eq-eqb l l refl))
  path_way n known {l} {k} (step {j = j} r p) =
      way_join R n l j k (known l j r) (way_more R n l j (or_right _ _ ((d l j).1 r))) (path_way n known p)
