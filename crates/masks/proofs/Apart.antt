-- Disjoint masks, and the next smaller part of a mask.
use Rattle.std.proofs.Common.{◌≡◌, ℕ, zero, suc, ◌+◌, ◌-◌, ◌*◌, ◌^◌, ◌<◌, ◌≤◌, ◌⊎◌, sym, refl, ap, ◌∙◌, subst, ap₂, inl, inr, mod-eq_of_lt, pow-suc, arith, pow_pos}
use native.Mathlib.Decide.{dec_le}
use lib.Bits.{bit_and, and_block, and_comm, and_mask, and_le_r}
use Rattle.masks.specs.Masks.{Apart, none, out, left, right}

pub apart_below : {n s d : ℕ} → Apart n s d → s + d < 2 ^ n
apart_below none = omega arith
apart_below (out {n = n} h) = let b = apart_below h in omega (arith, pow-suc 2 n)
apart_below (left {n = n} h) = let b = apart_below h in omega (arith, pow-suc 2 n)
apart_below (right {n = n} h) = let b = apart_below h in omega (arith, pow-suc 2 n)

pub apart_swap : {n s d : ℕ} → Apart n s d → Apart n d s
apart_swap none = none
apart_swap (out h) = out (apart_swap h)
apart_swap (left h) = right (apart_swap h)
apart_swap (right h) = left (apart_swap h)

apart_none : (n d : ℕ) → d < 2 ^ n → Apart n 0 d
apart_none zero d h = let e : 0 ≡ d = omega arith in subst (λ x. Apart 0 0 x) e none
apart_none (suc n) d h =
    elim (dec_le (2 ^ n) d) [
      | yes g ↦ (let e : 2 ^ n + (d - 2 ^ n) ≡ d = omega arith in
          subst (λ x. Apart (suc n) 0 x) e (right (apart_none n (d - 2 ^ n) (omega (arith, pow-suc 2 n)))))
      | no g ↦ out (apart_none n d (omega arith))
    ]

-- what is left of 2^n - 1 without e and f is disjoint from e
pub apart_rest : {n e f : ℕ} (s : ℕ) → Apart n e f → e + f + s + 1 ≡ 2 ^ n → Apart n s e
apart_rest s none h = let z : 0 ≡ s = omega arith in subst (λ s. Apart 0 s 0) z none
apart_rest s (out {n = n} {s = e} {d = f} a) h =
    let b = apart_below a in
    let w : 2 ^ n + (s - 2 ^ n) ≡ s = omega (arith, pow-suc 2 n) in
    subst (λ s. Apart (suc n) s e) w (left (apart_rest (s - 2 ^ n) a (omega (arith, pow-suc 2 n))))
apart_rest s (left {n = n} a) h = right (apart_rest s a (omega (arith, pow-suc 2 n)))
apart_rest s (right {n = n} a) h = out (apart_rest s a (omega (arith, pow-suc 2 n)))

-- the cases of two disjoint masks by their first place
pub first_place : {n t e : ℕ} → Apart (suc n) t e
    → ((t + e < 2 ^ n) × Apart n t e) ⊎ (((t₁ : ℕ) × (t ≡ 2 ^ n + t₁) × Apart n t₁ e) ⊎ ((e₁ : ℕ) × (e ≡ 2 ^ n + e₁) × Apart n t e₁))
first_place (out h) = inl (apart_below h, h)
first_place (left {s = s} h) = inr (inl (s, refl, h))
first_place (right {d = d} h) = inr (inr (d, refl, h))

-- the bits of two numbers with and without the top bit
and_high_high : (n r s : ℕ) → r < 2 ^ n → s < 2 ^ n → bit_and (2 ^ n + r) (2 ^ n + s) ≡ 2 ^ n + bit_and r s
and_high_high n r s hr hs =
    let e : 1 * 2 ^ n + r ≡ 2 ^ n + r = omega arith in
    let f : 1 * 2 ^ n + s ≡ 2 ^ n + s = omega arith in
    let g : 1 * 2 ^ n + bit_and r s ≡ 2 ^ n + bit_and r s = omega arith in
    sym (ap₂ bit_and e f) ∙ and_block n 1 1 r s hr hs ∙ g

and_low_high : (n r s : ℕ) → r < 2 ^ n → s < 2 ^ n → bit_and r (2 ^ n + s) ≡ bit_and r s
and_low_high n r s hr hs =
    let e : 0 * 2 ^ n + r ≡ r = omega arith in
    let f : 1 * 2 ^ n + s ≡ 2 ^ n + s = omega arith in
    let g : 0 * 2 ^ n + bit_and r s ≡ bit_and r s = omega arith in
    sym (ap₂ bit_and e f) ∙ and_block n 0 1 r s hr hs ∙ g

-- v is the largest part of m below s
pub record Next (n m s v : ℕ) : Type 0 where
  pub rest : ℕ
  pub apart : Apart n v rest
  pub whole : v + rest ≡ m
  pub largest : (t e : ℕ) → Apart n t e → t + e ≡ m → t < s → t ≤ v

next : {n s d : ℕ} → Apart n s d → 0 < s → Next n (s + d) s (bit_and (s - 1) (s + d))
next none h = absurd (omega arith)
next (out {n = n} {s = s} {d = d} a) h =
    let b = apart_below a in
    let x = next a h in
    record {
      rest = x.rest;
      apart = out x.apart;
      whole = x.whole;
      largest = λ t e q w l.
          elim (first_place q) [
            | inl u ↦ x.largest t e u.1 w l
            | inr v ↦ elim v [ inl u ↦ absurd (omega (arith, u.1)) | inr u ↦ absurd (omega (arith, u.1)) ]
          ];
    }
next (right {n = n} {s = s} {d = d} a) h =
    let b = apart_below a in
    let x = next a h in
    let swap : s + (2 ^ n + d) ≡ 2 ^ n + (s + d) = omega arith in
    let same : bit_and (s - 1) (s + (2 ^ n + d)) ≡ bit_and (s - 1) (s + d) =
    ap (bit_and (s - 1)) swap ∙ and_low_high n (s - 1) (s + d) (omega arith) b in
    subst (Next (suc n) (s + (2 ^ n + d)) s) (sym same)
    (record {
      rest = 2 ^ n + x.rest;
      apart = right x.apart;
      whole = omega (arith, x.whole);
      largest = λ t e q w l.
          elim (first_place q) [
            | inl u ↦ absurd (omega (arith, u.0))
            | inr v ↦ elim v
                [ inl u ↦ absurd (omega (arith, u.1)) | inr u ↦ x.largest t u.0 u.2 (omega (arith, u.1)) l ]
          ];
    })
next (left {n = n} {s = s} {d = d} a) h =
    elim (dec_le 1 s) [ yes g ↦ more g (next a g) | no g ↦ last (omega arith) ]
  where
    more : 0 < s → Next n (s + d) s (bit_and (s - 1) (s + d)) → Next (suc n) (2 ^ n + s + d) (2 ^ n + s) (bit_and (2 ^ n + s - 1) (2 ^ n + s + d))
    more g x =
        let p : 2 ^ n + s - 1 ≡ 2 ^ n + (s - 1) = omega arith in
        let q : 2 ^ n + s + d ≡ 2 ^ n + (s + d) = omega arith in
        let same : bit_and (2 ^ n + s - 1) (2 ^ n + s + d) ≡ 2 ^ n + bit_and (s - 1) (s + d) =
        ap₂ bit_and p q ∙ and_high_high n (s - 1) (s + d) (omega (arith, apart_below a)) (apart_below a) in
        subst (Next (suc n) (2 ^ n + s + d) (2 ^ n + s)) (sym same)
        (record {
          rest = x.rest;
          apart = left x.apart;
          whole = omega (arith, x.whole);
          largest = λ t e q w l.
              elim (first_place q) [
                | inl u ↦ absurd (omega (arith, u.0))
                | inr v ↦ elim v [
                  | inl u ↦ (let r = x.largest u.0 e u.2 (omega (arith, u.1)) (omega (arith, u.1)) in omega (arith, u.1))
                  | inr u ↦ (let r = apart_below u.2 in omega arith)
                ]
              ];
        })

    last : s ≡ 0 → Next (suc n) (2 ^ n + s + d) (2 ^ n + s) (bit_and (2 ^ n + s - 1) (2 ^ n + s + d))
    last g =
        let p : 2 ^ n + s - 1 ≡ 2 ^ n - 1 = omega arith in
        let q : 2 ^ n + s + d ≡ 2 ^ n + d = omega arith in
        let k = apart_below a in
        let same : bit_and (2 ^ n + s - 1) (2 ^ n + s + d) ≡ d =
        ap₂ bit_and p q ∙ and_low_high n (2 ^ n - 1) d (omega (arith, pow_pos n)) (omega arith)
        ∙ and_comm (2 ^ n - 1) d ∙ and_mask d n ∙ (let z : d < 2 ^ n = omega arith in mod-eq_of_lt z) in
        subst (Next (suc n) (2 ^ n + s + d) (2 ^ n + s)) (sym same)
        (record {
          rest = 2 ^ n + 0;
          apart = right (apart_swap (apart_none n d (omega arith)));
          whole = omega arith;
          largest = λ t e q w l.
              elim (first_place q) [
                | inl u ↦ absurd (omega (arith, u.0))
                | inr v ↦ elim v [ inl u ↦ absurd (omega (arith, u.1)) | inr u ↦ omega (arith, u.1) ]
              ];
        })

-- s is a part of m
abbrev pub Part : ℕ → ℕ → Type 0
Part m s = (s ≤ m) × ((n : ℕ) → m < 2 ^ n → Apart n s (m - s))

pub part_next : (n m s : ℕ) → m < 2 ^ n → Part m s → (s ≡ 0 → ⊥) → Next n m s (bit_and (s - 1) m)
part_next n m s h p z =
    let e : s + (m - s) ≡ m = omega (arith, p.0) in
    subst (λ w. Next n w s (bit_and (s - 1) w)) e (next (p.1 n h) (omega (arith, z)))

pub part_whole : (m : ℕ) → Part m m
part_whole m =
    (omega arith, λ n h. let e : 0 ≡ m - m = omega arith in subst (λ d. Apart n m d) e (apart_swap (apart_none n m h)))

pub part_more : (m s : ℕ) → Part m s → (s ≡ 0 → ⊥) → Part m (bit_and (s - 1) m)
part_more m s p z = (
  omega (arith, and_le_r (s - 1) m),
  λ n h.
      (let x = part_next n m s h p z in
      let r : x.rest ≡ m - bit_and (s - 1) m = omega (arith, x.whole) in
      subst (λ d. Apart n (bit_and (s - 1) m) d) r x.apart),
)
