-- What sets of masks say of the parts of a list.
use Rattle.std.proofs.Common.{◌≡◌, ℕ, zero, suc, ◌+◌, ◌-◌, ◌^◌, ◌<◌, ◌≤◌, Bool, ◌⊎◌, ◌↔◌, List, [], ◌∷◌, length, get_or, Option, sym, ap, ◌∙◌, subst, inl, inr, pow-suc, arith, pow_pos, pow_mono}
use native.Mathlib.Decide.{dec_le}
use lib.Pow.{pow-lt}
use Rattle.shapes.specs.Lists.{Split, Parts}
use Rattle.shapes.specs.Meaning.{AtMost}
use Rattle.shapes.proofs.Times.{times_filled}
use Rattle.masks.specs.Masks.{On, Apart, out, Splits, Single, Chain}
use Rattle.masks.proofs.Apart.{apart_below, first_place}
use Rattle.hoods.specs.Parts.{kept}
use Rattle.hoods.proofs.Kept.{kept_out, kept_in, kept_none, kept_empty, split_from_apart, cut_from_split}
use Rattle.hoods.proofs.Heads.{Heads, parts_from_heads, heads_from_parts}

-- the top place of a mask
top_place : (n m : ℕ) → m < 2 ^ n → 0 < m → (i : ℕ) × (i < n) × (2 ^ i ≤ m) × (m < 2 ^ suc i)
top_place zero m h l = absurd (omega arith)
top_place (suc n) m h l =
    elim (dec_le (2 ^ n) m) [
      | yes g ↦ (n, omega arith, g, h)
      | no g ↦ (let r = top_place n m (omega arith) l in (r.0, omega (arith, r.1), r.2, r.3))
    ]

-- and the element there
top_kept : {A : Type 0} (zs : List A) (i : ℕ) → i < length zs → (z : A) × ((r : ℕ) → r < 2 ^ i → kept (2 ^ i + r) zs ≡ z ∷ kept r zs)
top_kept [] i h = absurd (omega arith)
top_kept (z ∷ zs) i h =
    elim (dec_le (length zs) i) [
      | yes g ↦
          (let e : length zs ≡ i = omega arith in (
            z,
            λ r l. (let w : r < 2 ^ length zs = subst (λ i. r < 2 ^ i) (sym e) l in
                subst (λ i. kept (2 ^ i + r) (z ∷ zs) ≡ z ∷ kept r (z ∷ zs)) e (kept_in r z zs ∙ ap (λ l. z ∷ l) (sym (kept_out r z zs w)))),
          ))
      | no g ↦
          (let x = top_kept zs i (omega arith) in
          let p : suc i ≤ length zs = omega arith in
          let b : 2 ^ suc i ≤ 2 ^ length zs = pow_mono p in
          (x.0, λ r l. kept_out (2 ^ i + r) z zs (omega (arith, pow-suc 2 i)) ∙ x.1 r l ∙ ap (λ l. x.0 ∷ l) (sym (kept_out r z zs (omega (arith, pow-suc 2 i))))))
    ]

-- more places and fewer
apart_lift : (d i : ℕ) {s t : ℕ} → Apart i s t → Apart (d + i) s t
apart_lift zero i {s} {t} a = let e : i ≡ 0 + i = omega arith in subst (λ n. Apart n s t) e a
apart_lift (suc d) i {s} {t} a = let e : suc (d + i) ≡ suc d + i = omega arith in subst (λ n. Apart n s t) e (out (apart_lift d i a))

apart_drop : (d i s t : ℕ) → s + t < 2 ^ i → Apart (d + i) s t → Apart i s t
apart_drop zero i s t h a = let e : 0 + i ≡ i = omega arith in subst (λ n. Apart n s t) e a
apart_drop (suc d) i s t h a =
    let e : suc d + i ≡ suc (d + i) = omega arith in
    let l : i ≤ d + i = omega arith in
    let p : 2 ^ i ≤ 2 ^ (d + i) = pow_mono l in
    elim (first_place (subst (λ n. Apart n s t) e a)) [
      | inl u ↦ apart_drop d i s t h u.1
      | inr v ↦ elim v [ inl u ↦ absurd (omega (arith, u.1)) | inr u ↦ absurd (omega (arith, u.1)) ]
    ]

module _ {A : Type 0} (zs : List A) where
  -- c says of each part of zs whether it has Q
  abbrev pub Says : List Bool → (List A → Type 0) → Type 0
  Says c Q = (m : ℕ) → m < 2 ^ length zs → On c m ↔ Q (kept m zs)

  pub empty_says : (c : List Bool) → ((m : ℕ) → m < 2 ^ length zs → On c m ↔ (m ≡ 0)) → Says c (λ l. l ≡ [])
  empty_says c f m h = (λ o. ap (λ x. kept x zs) ((f m h).0 o) ∙ kept_none zs, λ e. (f m h).1 (kept_empty zs m h e))

  pub each_says : (a b c : List Bool) (Q R : List A → Type 0) → Says a Q → Says b R → ((m : ℕ) → m < 2 ^ length zs → On c m ↔ Splits (length zs) a b m)
      → Says c (λ l. (xs ys : List A) × Split l xs ys × Q xs × R ys)
  each_says a b c Q R p q f m h = (
    λ o. (let x = (f m h).0 o in
        let l = apart_below x.2 in (
          kept x.0 zs,
          kept x.1 zs,
          subst (λ m. Split (kept m zs) (kept x.0 zs) (kept x.1 zs)) x.3 (split_from_apart zs x.2),
          (p x.0 (omega arith)).0 x.4,
          (q x.1 (omega arith)).0 x.5,
        )),
    λ y. (f m h).1
        (let x = cut_from_split zs m y.0 y.1 h y.2 in
        let l = apart_below x.2 in
        (x.0, x.1, x.2, x.3, (p x.0 (omega arith)).1 (subst Q (sym x.4) y.3), (q x.1 (omega arith)).1 (subst R (sym x.5) y.4))),
  )

  heads_from_chain : (a : List Bool) (Q : List A → Type 0) → Says a Q → (j m : ℕ) → m < 2 ^ length zs → Chain a j m → Heads Q j (kept m zs)
  heads_from_chain a Q f zero m h e = ap (λ x. kept x zs) e ∙ kept_none zs
  heads_from_chain a Q f (suc j) m h (i, s, d, p, e, o, c) =
      let l = apart_below p in
      let w : i < length zs = elim (dec_le (length zs) i) [ yes g ↦ (let u : 2 ^ length zs ≤ 2 ^ i = pow_mono g in absurd (omega arith)) | no g ↦ omega arith ] in
      let z = top_kept zs i w in
      let n : (length zs - i) + i ≡ length zs = omega arith in
      let q = split_from_apart zs (subst (λ n. Apart n s d) n (apart_lift (length zs - i) i p)) in
      subst (Heads Q (suc j)) (sym (ap (λ x. kept x zs) e ∙ z.1 (s + d) l))
      (kept s zs, kept d zs, q, subst Q (z.1 s (omega arith)) ((f (2 ^ i + s) (omega arith)).0 o), heads_from_chain a Q f j d (omega arith) c)

  chain_from_heads : (a : List Bool) (Q : List A → Type 0) → Says a Q → (j m : ℕ) → m < 2 ^ length zs → Heads Q j (kept m zs) → Chain a j m
  chain_from_heads a Q f zero m h e = kept_empty zs m h e
  chain_from_heads a Q f (suc j) m h x =
      elim (dec_le 1 m) [
        | yes g ↦
            (let t = top_place (length zs) m h g in
            let i = t.0 in
            let z = top_kept zs i t.1 in
            let r = m - 2 ^ i in
            let e : m ≡ 2 ^ i + r = omega (arith, t.2) in
            let b : r < 2 ^ i = omega (arith, t.2, t.3, pow-suc 2 i) in
            let y = subst (Heads Q (suc j)) (ap (λ x. kept x zs) e ∙ z.1 r b) x in
            let c = cut_from_split zs r y.0 y.1 (omega arith) y.2 in
            let n : length zs ≡ (length zs - i) + i = omega (arith, t.1) in (
              i,
              c.0,
              c.1,
              apart_drop (length zs - i) i c.0 c.1 (omega (arith, c.3)) (subst (λ n. Apart n c.0 c.1) n c.2),
              omega (arith, c.3, e),
              (f (2 ^ i + c.0) (omega (arith, c.3, e))).1 (subst Q (sym (z.1 c.0 (omega (arith, c.3)) ∙ ap (λ l. z.0 ∷ l) c.4)) y.3),
              chain_from_heads a Q f j c.1 (omega (arith, c.3)) (subst (Heads Q j) (sym c.5) y.4),
            ))
        | no g ↦ (let e : m ≡ 0 = omega arith in absurd (subst (Heads Q (suc j)) (ap (λ x. kept x zs) e ∙ kept_none zs) x))
      ]

  pub times_says : (a c : List Bool) (Q : List A → Type 0) (least : ℕ) (most : Option ℕ) → AtMost least most → Says a Q
      → ((m : ℕ) → m < 2 ^ length zs → On c m ↔ ((j : ℕ) × AtMost j most × ((least ≤ j) ⊎ On a 0) × Chain a j m))
      → Says c (λ l. (k : ℕ) × (least ≤ k) × AtMost k most × Parts Q k l)
  times_says a c Q least most ok f g m h =
      let filled = times_filled Q least most ok (kept m zs) in (
        λ o. (let x = (g m h).0 o in filled.1 (x.0, x.1, to x.2, parts_from_heads Q x.0 (kept m zs) (heads_from_chain a Q f x.0 m h x.3))),
        λ y. (g m h).1 (let x = filled.0 y in (x.0, x.1, from x.2, chain_from_heads a Q f x.0 m h (heads_from_parts Q x.0 (kept m zs) x.3))),
      )
    where
      nothing : On a 0 ↔ Q []
      nothing = subst (λ l. On a 0 ↔ Q l) (kept_none zs) (f 0 (pow_pos (length zs)))

      to : {j : ℕ} → (least ≤ j) ⊎ On a 0 → (least ≤ j) ⊎ Q []
      to (inl l) = inl l
      to (inr o) = inr (nothing.0 o)

      from : {j : ℕ} → (least ≤ j) ⊎ Q [] → (least ≤ j) ⊎ On a 0
      from (inl l) = inl l
      from (inr q) = inr (nothing.1 q)

-- one element
abbrev One : {A : Type 0} → (A → Type 0) → List A → Type 0
One {A} P l = (a : A) × (l ≡ a ∷ []) × P a

cons_one : {A : Type 0} {a b : A} {xs : List A} → a ∷ xs ≡ b ∷ [] → (a ≡ b) × (xs ≡ [])
cons_one e = (cc, cc)

pub one_says : {A : Type 0} (P : A → Type 0) (d : A) (zs : List A) (t : List Bool) → length zs ≤ length t
    → ((j : ℕ) → j < length zs → On t j ↔ P (get_or zs j d))
    → (m : ℕ) → m < 2 ^ length zs → Single t (length zs) m ↔ One P (kept m zs)
one_says P d [] t e f m h = (λ x. absurd (omega (arith, x.1)), λ x. (let n : ◌≡◌ {A = ℕ} 0 1 = (let q = x.1 in cc) in absurd (omega arith)))
one_says P d (z ∷ zs) [] e f m h = absurd (omega arith)
one_says {A} P d (z ∷ zs) (v ∷ t) e f m h =
    go (λ m l. one_says P d zs t (omega arith) (λ j l. f (suc j) (omega arith)) m l)
  where
    go : ((m : ℕ) → m < 2 ^ length zs → Single t (length zs) m ↔ One P (kept m zs)) → Single (v ∷ t) (suc (length zs)) m ↔ One P (kept m (z ∷ zs))
    go ih = (
      λ x. to x.0 x.1 x.2 x.3,
      λ x. elim (dec_le (2 ^ length zs) m) [
        | yes g ↦
            (let m₁ = m - 2 ^ length zs in
            let w : m ≡ 2 ^ length zs + m₁ = omega arith in
            let q = cons_one (sym (ap (λ x. kept x (z ∷ zs)) w ∙ kept_in m₁ z zs) ∙ x.1) in
            let r : m₁ ≡ 0 = kept_empty zs m₁ (omega (arith, pow-suc 2 (length zs))) q.1 in
            let u : length zs ≡ suc (length zs) - 1 - 0 = omega arith in
            let s : 2 ^ length zs ≡ 2 ^ (suc (length zs) - 1 - 0) = ap (λ i. 2 ^ i) u in
            (0, omega arith, (f 0 (omega arith)).1 (subst P (sym q.0) x.2), omega arith))
        | no g ↦
            (let l : m < 2 ^ length zs = omega arith in
            let y = (ih m l).1 (x.0, sym (kept_out m z zs l) ∙ x.1, x.2) in
            (let u : length zs - 1 - y.0 ≡ suc (length zs) - 1 - suc y.0 = omega arith in (suc y.0, omega (arith, y.1), y.2, y.3 ∙ ap (λ i. 2 ^ i) u)))
      ],
    )
      where
        to : (j : ℕ) → j < suc (length zs) → On (v ∷ t) j → m ≡ 2 ^ (suc (length zs) - 1 - j) → One P (kept m (z ∷ zs))
        to zero l o w =
            let q : suc (length zs) - 1 - 0 ≡ length zs = omega arith in
            let r : 2 ^ (suc (length zs) - 1 - 0) ≡ 2 ^ length zs = ap (λ i. 2 ^ i) q in
            let s : m ≡ 2 ^ length zs + 0 = omega arith in
            (z, ap (λ x. kept x (z ∷ zs)) s ∙ kept_in 0 z zs ∙ ap (λ l. z ∷ l) (kept_none zs), (f 0 (omega arith)).0 o)
        to (suc j) l o w =
            let q : suc (length zs) - 1 - suc j ≡ length zs - 1 - j = omega arith in
            let s : m ≡ 2 ^ (length zs - 1 - j) = w ∙ ap (λ i. 2 ^ i) q in
            let u : length zs - 1 - j < length zs = omega arith in
            let b : 2 ^ (length zs - 1 - j) < 2 ^ length zs = pow-lt u in
            let y = (ih m (omega arith)).0 (j, omega arith, o, s) in
            (y.0, kept_out m z zs (omega arith) ∙ y.1, y.2)
