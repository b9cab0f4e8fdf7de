-- TIMES by sets of part counts: the first part of a mask has its top place.
use Rattle.std.proofs.Common.{◌≡◌, ℕ, zero, suc, ◌+◌, ◌-◌, ◌*◌, ◌%◌, ◌^◌, ◌<◌, ◌≤◌, Bool, ◌≢◌, ◌⊎◌, ◌↔◌, List, length, get_or, set, Some, Option, sym, refl, ap, ◌∙◌, subst, inl, inr, pow-suc, arith, get_or-set_other, get_or-set_same, pow_pos, pow_mono}
use native.Mathlib.Decide.{dec_le}
use lib.Bits.{bit_and, bit_or, and_le_l}
use lib.Pow.{shr_le}
use Rattle.std.proofs.lemmas.Bool.{cases_eq}
use Rattle.shapes.specs.Meaning.{AtMost}
use Rattle.masks.specs.Masks.{On, Bit, Apart, Chain}
use Rattle.masks.specs.Steps.{Gain, More, Below, Begun, Counted}
use Rattle.masks.proofs.Apart.{apart_below, apart_rest, Part, part_next}
use Rattle.masks.specs.Submasks.{after, Gives}
use Rattle.masks.specs.declared.submasks.Submasks.{Submasks}
use Rattle.masks.proofs.Descending.{Left, part_here, down}
use Rattle.masks.proofs.Flags.{either}
use Rattle.masks.proofs.Bits.{or_bit, shl_bit, shl_even, no_bit}

module _ (old : List ℕ) (part rest : ℕ) where
  -- the counts below the part stay
  abbrev pub Lower : List ℕ → Type 0
  Lower c = (e : ℕ) → e < part → get_or c e 0 ≡ get_or old e 0

  fewer : (n lo m j : ℕ) → Gain old part rest n (lo + 1) m j → Gain old part rest n lo m j
  fewer n lo m zero x = x
  fewer n lo m (suc j) x = (x.0, x.1, x.2, x.3, omega (arith, x.4), x.5, x.6)

  pub more_none : More old part rest (rest + 1) old
  more_none n h m j l = (λ b. inl b, λ x. elim x [ inl b ↦ b | inr g ↦ absurd (none j g) ])
    where
      none : (j : ℕ) → Gain old part rest n (rest + 1) m j → ⊥
      none zero g = g
      none (suc j) g = omega (arith, g.3, g.4)

  pub lower_set : (d v : ℕ) (c : List ℕ) → Lower c → Lower (set c (part + d) v)
  lower_set d v c f e h = let ne : e ≢ part + d = omega arith in rw get_or-set_other (f e h)

  pub more_take : (d : ℕ) (c : List ℕ) → Part rest d → rest < part → part + d < length c → Lower c → More old part rest (d + 1) c
      → More old part rest d (set c (part + d) (bit_or (get_or c (part + d) 0) (get_or c d 0 * 2 ^ 1 % 2 ^ 16)))
  more_take d c p lower room f g n h m j l =
      elim (cases_eq m (part + d)) [
        | inl e ↦ subst (λ m. Bit (get_or (set c (part + d) (bit_or x y)) m 0) j ↔ (Bit (get_or old m 0) j ⊎ Gain old part rest n d m j)) (sym e)
            (rw get_or-set_same (here j l))
        | inr i ↦ (let ne : m ≢ part + d = i in
            rw get_or-set_other (
              λ b. elim ((g n h m j l).0 b) [ inl o ↦ inl o | inr s ↦ inr (fewer n d m j s) ],
              λ s. (g n h m j l).1 (elim s [ inl o ↦ inl o | inr s ↦ inr (other i j s) ]),
            ))
      ]
    where
      x : ℕ
      x = get_or c (part + d) 0

      y : ℕ
      y = get_or c d 0 * 2 ^ 1 % 2 ^ 16

      other : (m ≡ part + d → ⊥) → (j : ℕ) → Gain old part rest n d m j → Gain old part rest n (d + 1) m j
      other i zero s = s
      other i (suc j) s = (s.0, s.1, s.2, s.3, omega (arith, i, s.4, s.5), s.5, s.6)

      same : get_or c d 0 ≡ get_or old d 0
      same = f d (omega (arith, p.0))

      gained : (j : ℕ) → j < 16 → Bit y j ↔ Gain old part rest n d (part + d) j
      gained zero l = (λ b. shl_even (get_or c d 0) b, λ s. absurd s)
      gained (suc j) l = (
        λ b. (d, rest - d, p.1 n h, omega (arith, p.0), omega arith, refl, subst (λ z. Bit z j) same (sym (shl_bit (get_or c d 0) j (omega arith)) ∙ b)),
        λ s. (let e : s.0 ≡ d = omega (arith, s.5) in
            shl_bit (get_or c d 0) j (omega arith) ∙ subst (λ z. Bit z j) (ap (λ k. get_or old k 0) e ∙ sym same) s.6),
      )

      here : (j : ℕ) (l : j < 16) → Bit (bit_or x y) j ↔ (Bit (get_or old (part + d) 0) j ⊎ Gain old part rest n d (part + d) j)
      here j l = (
        λ b. elim ((or_bit x y j).0 b) [
          | inl u ↦ elim ((g n h (part + d) j l).0 u) [ inl o ↦ inl o | inr s ↦ inr (fewer n d (part + d) j s) ]
          | inr u ↦ inr ((gained j l).0 u)
        ],
        λ s. (or_bit x y j).1 (elim s [ inl o ↦ inl ((g n h (part + d) j l).1 (inl o)) | inr s ↦ inr ((gained j l).1 s) ]),
      )

  more_next : (d : ℕ) (c : List ℕ) → Part rest d → (d ≡ 0 → ⊥) → More old part rest d c → More old part rest (bit_and (d - 1) rest + 1) c
  more_next d c p z g n h m j l = (
    λ b. elim ((g n h m j l).0 b) [ inl o ↦ inl o | inr s ↦ inr (down j s) ],
    λ s. (g n h m j l).1 (elim s [ inl o ↦ inl o | inr s ↦ inr (up j s) ]),
  )
    where
      down : (j : ℕ) → Gain old part rest n d m j → Gain old part rest n (bit_and (d - 1) rest + 1) m j
      down zero s = s
      down (suc j) s = (s.0, s.1, s.2, s.3, omega (arith, s.4, z, and_le_l (d - 1) rest), s.5, s.6)

      up : (j : ℕ) → Gain old part rest n (bit_and (d - 1) rest + 1) m j → Gain old part rest n d m j
      up zero s = s
      up (suc j) s = (
        s.0,
        s.1,
        s.2,
        s.3,
        (let y = part_next n rest d h p z in
            elim (dec_le d s.0) [ yes u ↦ u | no u ↦ (let v = y.largest s.0 s.1 s.2 s.3 (omega arith) in absurd (omega (arith, s.4))) ]),
        s.5,
        s.6,
      )

  -- one step of the iterator over the parts of the rest
  pub more_down : (d : ℕ) (it to : Submasks) → Left rest it → Gives it (Some d) to → (c : List ℕ) → More old part rest d c → More old part rest (after to.next) c
  more_down d it to left g c f =
      down rest d it to left g (λ lo. More old part rest lo c) f (λ z. more_next d c (part_here rest d it to left g) z f)

-- the top place of a mask
same_top : (i j m : ℕ) → 2 ^ i ≤ m → m < 2 ^ suc i → 2 ^ j ≤ m → m < 2 ^ suc j → i ≡ j
same_top i j m a b c d =
    elim (dec_le (suc i) j) [
      | yes y ↦ (let p : 2 ^ suc i ≤ 2 ^ j = pow_mono y in absurd (omega arith))
      | no y ↦ elim (dec_le (suc j) i) [
        | yes z ↦ (let p : 2 ^ suc j ≤ 2 ^ i = pow_mono z in absurd (omega arith))
        | no z ↦ omega arith
      ]
    ]

chain_from_below : (a : List Bool) (p j m : ℕ) → Below a p j m → Chain a j m
chain_from_below a p zero m x = x
chain_from_below a p (suc j) m x = (x.0, x.1, x.2, x.3, x.4, x.6, x.7)

below_from_chain : (a : List Bool) (p j m : ℕ) → m < p → Chain a j m → Below a p j m
below_from_chain a p zero m h x = x
below_from_chain a p (suc j) m h x = (x.0, x.1, x.2, x.3, x.4, omega (arith, x.4), x.5, x.6)

pub begun_none : (a : List Bool) (k : List ℕ) (n : ℕ) → 0 < length k → ((m : ℕ) → m < 2 ^ n → get_or k m 0 ≡ 0) → Begun a (set k 0 1) n 1
begun_none a k n l f m j h z =
    elim (cases_eq m 0) [
      | inl e ↦ subst (λ m. Bit (get_or (set k 0 1) m 0) j ↔ Below a 1 j m) (sym e) (rw get_or-set_same (first j))
      | inr d ↦ (let ne : m ≢ 0 = d in rw get_or-set_other (rw (f m h) (others d j)))
    ]
  where
    first : (j : ℕ) → Bit 1 j ↔ Below a 1 j 0
    first zero = (λ b. refl, λ b. refl)
    first (suc j) =
        let w : 1 < 2 ^ suc j = omega (arith, pow-suc 2 j, pow_pos j) in
        (λ b. absurd (omega (arith, no_bit (suc j) 1 w)), λ x. absurd (omega (arith, x.4, pow_pos x.0)))

    others : (m ≡ 0 → ⊥) → (j : ℕ) → Bit 0 j ↔ Below a 1 j m
    others d zero = (λ b. absurd (omega (arith, shr_le 0 0)), λ x. absurd (d x))
    others d (suc j) = (λ b. absurd (omega (arith, shr_le 0 (suc j))), λ x. absurd (omega (arith, x.5, pow_pos x.0)))

pub begun_skip : (a : List Bool) (k : List ℕ) (n p : ℕ) → (On a p → ⊥) → Begun a k n p → Begun a k n (p + 1)
begun_skip a k n p z f m j h l =
    either (f m j h l) (up j, down j)
  where
    up : (j : ℕ) → Below a p j m → Below a (p + 1) j m
    up zero x = x
    up (suc j) x = (x.0, x.1, x.2, x.3, x.4, omega (arith, x.5), x.6, x.7)

    down : (j : ℕ) → Below a (p + 1) j m → Below a p j m
    down zero x = x
    down (suc j) x = (
      x.0,
      x.1,
      x.2,
      x.3,
      x.4,
      (let ne : 2 ^ x.0 + x.1 ≡ p → ⊥ = λ e. z (subst (On a) e x.6) in omega (arith, ne, x.5)),
      x.6,
      x.7,
    )

pub begun_more : (a : List Bool) (k new : List ℕ) (n i p : ℕ) → 2 ^ i ≤ p → p < 2 * 2 ^ i → On a p → More k p (2 * 2 ^ i - 1 - p) 0 new → Begun a k n p → Begun a new n (p + 1)
begun_more a k new n i p low high o g f m j h l = either (g i (omega arith) m j l) (to j l, from j l)
  where
    rest : ℕ
    rest = 2 * 2 ^ i - 1 - p

    to : (j : ℕ) → j < 16 → Bit (get_or k m 0) j ⊎ Gain k p rest i 0 m j → Below a (p + 1) j m
    to zero l (inl b) = (f m 0 h l).0 b
    to zero l (inr s) = absurd s
    to (suc j) l (inl b) = let x = (f m (suc j) h l).0 b in (x.0, x.1, x.2, x.3, x.4, omega (arith, x.5), x.6, x.7)
    to (suc j) l (inr s) =
        let w : p ≡ 2 ^ i + (p - 2 ^ i) = omega arith in (
          i,
          p - 2 ^ i,
          s.0,
          apart_rest (p - 2 ^ i) s.2 (omega (arith, s.3)),
          omega (arith, s.5),
          omega arith,
          subst (On a) w o,
          chain_from_below a p j s.0 ((f s.0 j (omega (arith, s.5)) (omega arith)).0 s.6),
        )

    from : (j : ℕ) → j < 16 → Below a (p + 1) j m → Bit (get_or k m 0) j ⊎ Gain k p rest i 0 m j
    from zero l x = inl ((f m 0 h l).1 x)
    from (suc j) l x =
        elim (cases_eq (2 ^ x.0 + x.1) p) [
          | inl e ↦
              (let b = apart_below x.3 in
              let w : x.0 ≡ i = same_top x.0 i p (omega arith) (omega (arith, pow-suc 2 x.0)) low (omega (arith, pow-suc 2 i)) in
              let v : 2 ^ x.0 ≡ 2 ^ i = ap (λ n. 2 ^ n) w in
              let q : Apart i x.1 x.2 = subst (λ n. Apart n x.1 x.2) w x.3 in
              let r = 2 ^ i - 1 - x.1 - x.2 in
              inr (
                x.2,
                r,
                apart_rest x.2 (apart_rest r q (omega arith)) (omega arith),
                omega arith,
                omega arith,
                omega (arith, x.4),
                (f x.2 j (omega (arith, x.4)) (omega arith)).1 (below_from_chain a p j x.2 (omega arith) x.7),
              ))
          | inr d ↦ inl ((f m (suc j) h l).1 (x.0, x.1, x.2, x.3, x.4, omega (arith, d, x.5), x.6, x.7))
        ]

pub begun_all : (a : List Bool) (k : List ℕ) (n p : ℕ) → p ≡ 2 ^ n → Begun a k n p → Counted a k (2 ^ n)
begun_all a k n p e f m j h l = either (f m j h l) (chain_from_below a p j m, below_from_chain a p j m (omega arith))

-- a mask has at most as many parts as places
chain_few : (a : List Bool) (n j m : ℕ) → m < 2 ^ n → Chain a j m → j ≤ n
chain_few a n zero m h x = omega arith
chain_few a n (suc j) m h (i, s, d, p, e, o, x) =
    let b = apart_below p in
    let few = chain_few a i j d (omega arith) x in
    elim (dec_le (suc i) n) [ yes y ↦ omega arith | no y ↦ (let q : n ≤ i = omega arith in let r : 2 ^ n ≤ 2 ^ i = pow_mono q in absurd (omega arith)) ]

-- how TIMES counts its parts: lo is 0 where a has the empty mask, else least, and cap is most up to 12
pub times_any : (a : List Bool) (k : List ℕ) (n least lo cap m : ℕ) (most : Option ℕ) → n ≤ 12 → m < 2 ^ n → cap < 16 → Counted a k (2 ^ n)
    → ((j : ℕ) → j ≤ 12 → (j ≤ cap) ↔ AtMost j most)
    → (((lo ≡ 0) × On a 0) ⊎ ((lo ≡ least) × (On a 0 → ⊥)))
    → ((j : ℕ) × (lo ≤ j) × (j ≤ cap) × Bit (get_or k m 0) j) ↔ ((j : ℕ) × AtMost j most × ((least ≤ j) ⊎ On a 0) × Chain a j m)
times_any a k n least lo cap m most few h small f fit e = (
  λ x. (let y = (f m x.0 h (omega (arith, x.2))).0 x.3 in
      (x.0, (fit x.0 (omega (arith, chain_few a n x.0 m h y))).0 x.2, enough x.0 x.1 e, y)),
  λ x. (let l = chain_few a n x.0 m h x.3 in
      (x.0, reaches x.0 x.2 e, (fit x.0 (omega arith)).1 x.1, (f m x.0 h (omega arith)).1 x.3)),
)
  where
    Low : Type 0
    Low = ((lo ≡ 0) × On a 0) ⊎ ((lo ≡ least) × (On a 0 → ⊥))

    enough : (j : ℕ) → lo ≤ j → Low → (least ≤ j) ⊎ On a 0
    enough j l (inl e) = inr e.1
    enough j l (inr e) = inl (omega (arith, e.0))

    reaches : (j : ℕ) → (least ≤ j) ⊎ On a 0 → Low → lo ≤ j
    reaches j x (inl e) = omega (arith, e.0)
    reaches j (inl l) (inr e) = omega (arith, e.0)
    reaches j (inr o) (inr e) = absurd (e.1 o)
