-- Sets of nodes, bit by bit. Assumes nothing.
use Rattle.std.proofs.Common.{◌≡◌, ℕ, ◌-◌, ◌*◌, ◌/◌, ◌%◌, ◌^◌, ◌<◌, ◌≤◌, ◌⊎◌, ◌↔◌, List, length, get_or, set, replicate, bit_and, bit_or, w64, sym, ap, ◌∙◌, inl, inr, ⊎_elim, arith, get_or-set_other, get_or-set_same}
use Rattle.std.specs.Int.{bit_at, bit_not, trailing_zeros}
use Rattle.std.proofs.lemmas.Nat.{and_le_l, le_or_l}
use Rattle.std.proofs.lemmas.Nat.Bits.{bit_at-lt, bit_at-zero, bit_at_and, bit_at_or, bit_at_not, bit_at-trailing_zeros, bit_at_set_same, bit_at_set_other}
use Rattle.std.proofs.lemmas.List.{get_or-replicate, get_or_past, length-replicate}
use Rattle.std.proofs.lemmas.List.Sums.{sum_by-set}
use Rattle.std.proofs.lemmas.Bool.{cases_eq, cases_lt}
use Rattle.std.specs.List.{sum_by}

-- the bit of a place of many words
abbrev pub bit_in : List ℕ → ℕ → ℕ
bit_in ws n = bit_at (get_or ws (n / 64) 0) (n % 64)

zeros : (m k : ℕ) → get_or {A = ℕ} (replicate m 0) k 0 ≡ 0
zeros m k = ⊎_elim (λ (l : k < m). get_or-replicate m k 0 0 l) (λ (l : m ≤ k). get_or_past (replicate m 0) k 0 (omega (arith, length-replicate {A = ℕ} m 0))) (cases_lt k m)

pub none_has : (m n : ℕ) → bit_in (replicate m 0) n ≡ 1 → ⊥
none_has m n h = let e = ap (λ w. bit_at w (n % 64)) (zeros m (n / 64)) in let z = bit_at-zero (n % 64) in omega arith

pub or_bits : (a b i : ℕ) → (bit_at (bit_or a b) i ≡ 1) ↔ ((bit_at a i ≡ 1) ⊎ (bit_at b i ≡ 1))
or_bits a b i =
    let e = bit_at_or a b i in
    let p = bit_at-lt a i in
    let q = bit_at-lt b i in
    (λ h. ⊎_elim inl (λ (n : bit_at a i ≡ 1 → ⊥). inr (omega arith)) (cases_eq (bit_at a i) 1), λ h. ⊎_elim (λ (x : bit_at a i ≡ 1). omega arith) (λ (x : bit_at b i ≡ 1). omega arith) h)

-- a word is written
module _ (ws : List ℕ) (p : ℕ) (h : p < length ws) (x n : ℕ) where
  pub bit_same : n / 64 ≡ p → bit_in (set ws p x) n ≡ bit_at x (n % 64)
  bit_same e = ap (λ k. bit_at (get_or (set ws p x) k 0) (n % 64)) e ∙ ap (λ w. bit_at w (n % 64)) (get_or-set_same ws p x 0 h)

  pub bit_other : (n / 64 ≡ p → ⊥) → bit_in (set ws p x) n ≡ bit_in ws n
  bit_other ne = ap (λ w. bit_at w (n % 64)) (get_or-set_other ws p (n / 64) x 0 ne)

-- a node joins
module _ (ws : List ℕ) (node : ℕ) (h : node / 64 < length ws) where
  abbrev joined : ℕ
  joined = bit_or (get_or ws (node / 64) 0) (1 * 2 ^ (node % 64) % 2 ^ 64)

  pub joined_has : (n : ℕ) → (bit_in (set ws (node / 64) joined) n ≡ 1) ↔ ((bit_in ws n ≡ 1) ⊎ (n ≡ node))
  joined_has n = ⊎_elim
      (λ (e : n / 64 ≡ node / 64).
      let s = bit_same ws (node / 64) h joined n e in
      let t = ap (λ k. bit_at (get_or ws k 0) (n % 64)) e in
      ⊎_elim
      (λ (f : n % 64 ≡ node % 64).
      let y = ap (bit_at joined) f ∙ bit_at_set_same w64 (get_or ws (node / 64) 0) (node % 64) (omega arith) in
      (λ k. inr (omega arith), λ k. s ∙ y))
      (λ (f : n % 64 ≡ node % 64 → ⊥).
      let y = bit_at_set_other w64 (get_or ws (node / 64) 0) (node % 64) (omega arith) (n % 64) f in
      (λ k. inl (omega arith), λ k. ⊎_elim (λ (a : bit_in ws n ≡ 1). omega arith) (λ (a : n ≡ node). absurd (f (ap (λ z. z % 64) a))) k))
      (cases_eq (n % 64) (node % 64)))
      (λ (e : n / 64 ≡ node / 64 → ⊥).
      let s = bit_other ws (node / 64) h joined n e in
      (λ k. inl (sym s ∙ k), λ k. ⊎_elim (λ (a : bit_in ws n ≡ 1). s ∙ a) (λ (a : n ≡ node). absurd (e (ap (λ z. z / 64) a))) k))
      (cases_eq (n / 64) (node / 64))

  pub joined_fuller : get_or ws (node / 64) 0 < 2 ^ 64 → (bit_in ws node ≡ 1 → ⊥) → sum_by (λ w. 2 ^ 64 - w) (set ws (node / 64) joined) < sum_by (λ w. 2 ^ 64 - w) ws
  joined_fuller small new =
      let s = sum_by-set (λ w. 2 ^ 64 - w) ws (node / 64) joined 0 h in
      let l = le_or_l (get_or ws (node / 64) 0) (1 * 2 ^ (node % 64) % 2 ^ 64) in
      let y = bit_at_set_same w64 (get_or ws (node / 64) 0) (node % 64) (omega arith) in
      ⊎_elim (λ (e : get_or ws (node / 64) 0 ≡ joined). absurd (new (ap (λ w. bit_at w (node % 64)) e ∙ y))) (λ (e : get_or ws (node / 64) 0 ≡ joined → ⊥). omega arith) (cases_eq (get_or ws (node / 64) 0) joined)

-- what one word has and another lacks
module _ (a b : ℕ) (small : b < 2 ^ 64) where
  pub first_left : a < 2 ^ 64 → 0 < bit_and a (bit_not w64 b)
      → (trailing_zeros w64 (bit_and a (bit_not w64 b)) < 64) × (bit_at a (trailing_zeros w64 (bit_and a (bit_not w64 b))) ≡ 1) × (bit_at b (trailing_zeros w64 (bit_and a (bit_not w64 b))) ≡ 1 → ⊥)
  first_left q p =
      let l = and_le_l a (bit_not w64 b) in
      let t = bit_at-trailing_zeros w64 (bit_and a (bit_not w64 b)) p (omega arith) in
      let z = trailing_zeros w64 (bit_and a (bit_not w64 b)) in
      let e = bit_at_and a (bit_not w64 b) z in
      let f = bit_at_not w64 b z small t.0 in
      let g = bit_at-lt a z in
      let x = t.1 in
      (t.0, omega arith, λ h. omega arith)

  pub none_left : bit_and a (bit_not w64 b) ≡ 0 → (i : ℕ) → i < 64 → bit_at a i ≡ 1 → bit_at b i ≡ 1
  none_left z i h k =
      let e = bit_at_and a (bit_not w64 b) i in
      let f = bit_at_not w64 b i small h in
      let y = ap (λ x. bit_at x i) z ∙ bit_at-zero i in
      let g = bit_at-lt b i in omega arith
