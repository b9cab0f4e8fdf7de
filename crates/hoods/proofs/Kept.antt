-- The parts of a list that masks keep: disjoint masks are the splits of the list.
use Rattle.std.proofs.Common.{◌≡◌, ℕ, suc, ◌+◌, ◌-◌, ◌^◌, ◌<◌, ◌≤◌, Bool, true, false, cond, T, leb, ◌⊎◌, List, [], ◌∷◌, length, sym, refl, ap, ◌∙◌, subst, inl, inr, pow-suc, arith, le→leb, leb→le, pow_pos}
use native.Mathlib.Decide.{dec_le}
use Rattle.shapes.specs.Lists.{Split, nil, left as to-left, right as to-right}
use Rattle.masks.specs.Masks.{Apart, none, out, left, right}
use Rattle.masks.proofs.Apart.{apart_below}
use Rattle.hoods.specs.Parts.{kept}

pub kept_out : {A : Type 0} (m : ℕ) (z : A) (zs : List A) → m < 2 ^ length zs → kept m (z ∷ zs) ≡ kept m zs
kept_out {A} m z zs h = by (leb (2 ^ length zs) m) refl
  where
    by : (b : Bool) → leb (2 ^ length zs) m ≡ b → cond b (z ∷ kept (m - 2 ^ length zs) zs) (kept m zs) ≡ kept m zs
    by false e = refl
    by true e = let g : 2 ^ length zs ≤ m = leb→le (2 ^ length zs) m (subst T (sym e) tt) in absurd (omega arith)

pub kept_in : {A : Type 0} (m : ℕ) (z : A) (zs : List A) → kept (2 ^ length zs + m) (z ∷ zs) ≡ z ∷ kept m zs
kept_in {A} m z zs = by (leb (2 ^ length zs) (2 ^ length zs + m)) (le→leb (2 ^ length zs) (2 ^ length zs + m) (omega arith))
  where
    by : (b : Bool) → T b → cond b (z ∷ kept (2 ^ length zs + m - 2 ^ length zs) zs) (kept (2 ^ length zs + m) zs) ≡ z ∷ kept m zs
    by true t = let e : 2 ^ length zs + m - 2 ^ length zs ≡ m = omega arith in ap (λ x. z ∷ kept x zs) e
    by false t = absurd t

pub kept_none : {A : Type 0} (zs : List A) → kept 0 zs ≡ []
kept_none [] = refl
kept_none (z ∷ zs) = kept_out 0 z zs (pow_pos (length zs)) ∙ kept_none zs

pub kept_all : {A : Type 0} (zs : List A) → kept (2 ^ length zs - 1) zs ≡ zs
kept_all [] = refl
kept_all (z ∷ zs) =
    let e : 2 ^ suc (length zs) - 1 ≡ 2 ^ length zs + (2 ^ length zs - 1) = omega (arith, pow-suc 2 (length zs), pow_pos (length zs)) in
    ap (λ x. kept x (z ∷ zs)) e ∙ kept_in (2 ^ length zs - 1) z zs ∙ ap (λ l. z ∷ l) (kept_all zs)

-- only the mask 0 keeps nothing
pub kept_empty : {A : Type 0} (zs : List A) (m : ℕ) → m < 2 ^ length zs → kept m zs ≡ [] → m ≡ 0
kept_empty [] m h e = omega arith
kept_empty (z ∷ zs) m h e =
    elim (dec_le (2 ^ length zs) m) [
      | yes g ↦
          (let m₁ = m - 2 ^ length zs in
          let w : m ≡ 2 ^ length zs + m₁ = omega arith in
          let q : z ∷ kept m₁ zs ≡ [] = sym (ap (λ x. kept x (z ∷ zs)) w ∙ kept_in m₁ z zs) ∙ e in
          let n : ◌≡◌ {A = ℕ} 0 1 = cc in absurd (omega arith))
      | no g ↦ (let l : m < 2 ^ length zs = omega arith in kept_empty zs m l (sym (kept_out m z zs l) ∙ e))
    ]

pub split_from_apart : {A : Type 0} (zs : List A) {s d : ℕ} → Apart (length zs) s d → Split (kept (s + d) zs) (kept s zs) (kept d zs)
split_from_apart [] a = nil
split_from_apart (z ∷ zs) (out {s = s} {d = d} a) =
    let b = apart_below a in
    rw (kept_out (s + d) z zs b, kept_out s z zs (omega arith), kept_out d z zs (omega arith)) (split_from_apart zs a)
split_from_apart (z ∷ zs) (left {s = s} {d = d} a) =
    let b = apart_below a in
    let e : 2 ^ length zs + s + d ≡ 2 ^ length zs + (s + d) = omega arith in
    rw (e, kept_in (s + d) z zs, kept_in s z zs, kept_out d z zs (omega arith)) (to-left (split_from_apart zs a))
split_from_apart (z ∷ zs) (right {s = s} {d = d} a) =
    let b = apart_below a in
    let e : s + (2 ^ length zs + d) ≡ 2 ^ length zs + (s + d) = omega arith in
    rw (e, kept_in (s + d) z zs, kept_in d z zs, kept_out s z zs (omega arith)) (to-right (split_from_apart zs a))

-- the masks of the two parts of a split
abbrev pub Cut : {A : Type 0} → List A → ℕ → List A → List A → Type 0
Cut zs m xs ys = (s d : ℕ) × Apart (length zs) s d × (s + d ≡ m) × (kept s zs ≡ xs) × (kept d zs ≡ ys)

split_head : {A : Type 0} {z : A} {zs xs ys : List A} → Split (z ∷ zs) xs ys
    → ((us : List A) × Split zs us ys × (z ∷ us ≡ xs)) ⊎ ((vs : List A) × Split zs xs vs × (z ∷ vs ≡ ys))
split_head (to-left {xs = us} s) = inl (us, s, refl)
split_head (to-right {ys = vs} s) = inr (vs, s, refl)

split_none : {A : Type 0} {xs ys : List A} → Split [] xs ys → ([] ≡ xs) × ([] ≡ ys)
split_none nil = (refl, refl)

pub cut_from_split : {A : Type 0} (zs : List A) (m : ℕ) (xs ys : List A) → m < 2 ^ length zs → Split (kept m zs) xs ys → Cut zs m xs ys
cut_from_split [] m xs ys h s = let e = split_none s in (0, 0, none, omega arith, e.0, e.1)
cut_from_split {A} (z ∷ zs) m xs ys h s =
    elim (dec_le (2 ^ length zs) m) [ yes g ↦ with_first (cut_from_split zs) g | no g ↦ without (cut_from_split zs) (omega arith) ]
  where
    Smaller : Type 0
    Smaller = (m : ℕ) (xs ys : List A) → m < 2 ^ length zs → Split (kept m zs) xs ys → Cut zs m xs ys

    without : Smaller → m < 2 ^ length zs → Cut (z ∷ zs) m xs ys
    without ih g =
        let c = ih m xs ys g (subst (λ l. Split l xs ys) (kept_out m z zs g) s) in
        let b = apart_below c.2 in
        (c.0, c.1, out c.2, c.3, kept_out c.0 z zs (omega arith) ∙ c.4, kept_out c.1 z zs (omega arith) ∙ c.5)

    with_first : Smaller → 2 ^ length zs ≤ m → Cut (z ∷ zs) m xs ys
    with_first ih g =
        let m₁ = m - 2 ^ length zs in
        let l : m₁ < 2 ^ length zs = omega (arith, pow-suc 2 (length zs)) in
        let e : m ≡ 2 ^ length zs + m₁ = omega arith in
        elim (split_head (subst (λ l. Split l xs ys) (ap (λ x. kept x (z ∷ zs)) e ∙ kept_in m₁ z zs) s)) [
          | inl u ↦
              (let c = ih m₁ u.0 ys l u.1 in
              let b = apart_below c.2 in
              (2 ^ length zs + c.0, c.1, left c.2, omega (arith, c.3), kept_in c.0 z zs ∙ ap (λ l. z ∷ l) c.4 ∙ u.2, kept_out c.1 z zs (omega arith) ∙ c.5))
          | inr u ↦
              (let c = ih m₁ xs u.0 l u.1 in
              let b = apart_below c.2 in
              (c.0, 2 ^ length zs + c.1, right c.2, omega (arith, c.3), kept_out c.0 z zs (omega arith) ∙ c.4, kept_in c.1 z zs ∙ ap (λ l. z ∷ l) c.5 ∙ u.2))
        ]
