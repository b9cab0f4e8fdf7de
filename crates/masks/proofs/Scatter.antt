-- EACH by scatter: the loops over the masks of the one and the disjoint masks of the other.
use Rattle.std.proofs.Common.{◌≡◌, ℕ, ◌+◌, ◌-◌, ◌^◌, ◌<◌, ◌≤◌, Bool, true, false, ◌||◌, ◌≢◌, ◌⊎◌, ◌↔◌, List, length, get_or, set, Some, sym, refl, subst, inl, inr, arith, get_or-set_other, get_or-set_same}
use native.Mathlib.Decide.{dec_le}
use lib.Bits.{bit_and, and_le_l}
use Rattle.std.proofs.lemmas.Bool.{cases_eq}
use Rattle.std.proofs.lemmas.Bool.Decides.{Decides-or}
use Rattle.masks.specs.Masks.{On, Apart, Splits}
use Rattle.masks.specs.Steps.{Spread, Joined}
use Rattle.masks.proofs.Apart.{apart_below, apart_rest, Part, part_next}
use Rattle.masks.specs.Submasks.{after, Gives}
use Rattle.masks.specs.declared.submasks.Submasks.{Submasks}
use Rattle.masks.proofs.Descending.{Left, part_here, down}
use Rattle.masks.proofs.Flags.{either, not_on}

module _ (n : ℕ) (old b : List Bool) (s u : ℕ) where
  pub spread_none : Spread n old b s u (u + 1) old
  spread_none m h = (λ o. inl o, λ x. elim x [ inl o ↦ o | inr y ↦ absurd (omega (arith, y.3, y.4)) ])

  pub spread_mark : (d : ℕ) (c : List Bool) → u < 2 ^ n → Part u d → s + d < length c → Spread n old b s u (d + 1) c
      → Spread n old b s u d (set c (s + d) (get_or c (s + d) false || get_or b d false))
  spread_mark d c v p w f m h =
      elim (cases_eq m (s + d)) [
        | inl i ↦ subst (λ k. On (set c (s + d) (x || y)) k ↔ To k) (sym i) (rw get_or-set_same (here (subst (λ k. k < 2 ^ n) i h)))
        | inr i ↦
            (let ne : m ≢ s + d = i in
            rw get_or-set_other (
              λ q. elim ((f m h).0 q) [ inl x ↦ inl x | inr y ↦ inr (y.0, y.1, y.2, y.3, omega (arith, y.4), y.5, y.6) ],
              λ x. (f m h).1 (elim x [
                | inl q ↦ inl q
                | inr y ↦ inr (y.0, y.1, y.2, y.3, omega (arith, i, y.5, y.4), y.5, y.6)
              ]),
            ))
      ]
    where
      x : Bool
      x = get_or c (s + d) false

      y : Bool
      y = get_or b d false

      To : ℕ → Type 0
      To k = On old k ⊎ ((e f : ℕ) × Apart n e f × (e + f ≡ u) × (d ≤ e) × (s + e ≡ k) × On b e)

      here : s + d < 2 ^ n → ((x || y) ≡ true) ↔ To (s + d)
      here h =
          either (Decides-or x y (λ o. o, λ o. o) (λ o. o, λ o. o)) (
            λ o. elim o [
              | inl q ↦ elim ((f (s + d) h).0 q) [ inl z ↦ inl z | inr y ↦ inr (y.0, y.1, y.2, y.3, omega (arith, y.4), y.5, y.6) ]
              | inr q ↦ inr (d, u - d, p.1 n v, omega (arith, p.0), omega arith, refl, q)
            ],
            λ o. elim o [
              | inl z ↦ inl ((f (s + d) h).1 (inl z))
              | inr y ↦ inr (let e : y.0 ≡ d = omega (arith, y.5) in subst (On b) e y.6)
            ],
          )

  spread_next : (d : ℕ) (c : List Bool) → u < 2 ^ n → Part u d → (d ≡ 0 → ⊥) → Spread n old b s u d c → Spread n old b s u (bit_and (d - 1) u + 1) c
  spread_next d c v p z f m h = (
    λ o. elim ((f m h).0 o) [ inl x ↦ inl x | inr y ↦ inr (y.0, y.1, y.2, y.3, omega (arith, y.4, z, and_le_l (d - 1) u), y.5, y.6) ],
    λ x. (f m h).1 (elim x [
      | inl o ↦ inl o
      | inr y ↦ inr (
        y.0,
        y.1,
        y.2,
        y.3,
        (let t = part_next n u d v p z in
            elim (dec_le d y.0) [ yes g ↦ g | no g ↦ (let r = t.largest y.0 y.1 y.2 y.3 (omega arith) in absurd (omega (arith, y.4))) ]),
        y.5,
        y.6,
      )
    ]),
  )

  -- one step of the iterator over the parts of u
  pub spread_down : (d : ℕ) (it to : Submasks) → Left u it → Gives it (Some d) to → (c : List Bool) → u < 2 ^ n → Spread n old b s u d c → Spread n old b s u (after to.next) c
  spread_down d it to left g c v f =
      down u d it to left g (λ lo. Spread n old b s u lo c) f (λ z. spread_next d c v (part_here u d it to left g) z f)

module _ (n : ℕ) (a b : List Bool) where
  pub join_none : (c : List Bool) → ((m : ℕ) → m < 2 ^ n → get_or c m false ≡ false) → Joined n a b 0 c
  join_none c f m h = (λ o. not_on (f m h) o, λ x. absurd (omega (arith, x.2)))

  pub join_skip : (s : ℕ) (c : List Bool) → (On a s → ⊥) → Joined n a b s c → Joined n a b (s + 1) c
  join_skip s c z f m h = (
    λ o. (let x = (f m h).0 o in (x.0, x.1, omega (arith, x.2), x.3, x.4, x.5, x.6)),
    λ x. (f m h).1 (x.0, x.1, (let ne : x.0 ≡ s → ⊥ = λ i. z (subst (On a) i x.5) in omega (arith, ne, x.2)), x.3, x.4, x.5, x.6),
  )

  pub join_more : (s : ℕ) (c new : List Bool) → s < 2 ^ n → On a s → Spread n c b s (2 ^ n - 1 - s) 0 new → Joined n a b s c → Joined n a b (s + 1) new
  join_more s c new w o g f m h = (
    λ q. elim ((g m h).0 q) [
      | inl p ↦ (let x = (f m h).0 p in (x.0, x.1, omega (arith, x.2), x.3, x.4, x.5, x.6))
      | inr y ↦ (s, y.0, omega arith, apart_rest s y.2 (omega (arith, y.3)), y.5, o, y.6)
    ],
    λ x. (g m h).1
        (elim (cases_eq x.0 s) [
          | inl i ↦
              (let p : Apart n s x.1 = subst (λ t. Apart n t x.1) i x.3 in
              let q = apart_below p in
              let r = 2 ^ n - 1 - s - x.1 in
              inr (x.1, r, apart_rest x.1 (apart_rest r p (omega arith)) (omega arith), omega arith, omega arith, omega (arith, i, x.4), x.6))
          | inr i ↦ inl ((f m h).1 (x.0, x.1, omega (arith, i, x.2), x.3, x.4, x.5, x.6))
        ]),
  )

  pub join_all : (c : List Bool) (s : ℕ) → s ≡ 2 ^ n → Joined n a b s c → (m : ℕ) → m < 2 ^ n → On c m ↔ Splits n a b m
  join_all c s e f m h = (
    λ o. (let x = (f m h).0 o in (x.0, x.1, x.3, x.4, x.5, x.6)),
    λ x. (f m h).1 (x.0, x.1, omega (arith, x.3), x.2, x.3, x.4, x.5),
  )
