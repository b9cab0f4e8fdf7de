-- Single bits of numbers.
use Rattle.std.proofs.Common.{◌≡◌, ℕ, suc, ◌+◌, ◌-◌, ◌*◌, ◌/◌, ◌%◌, ◌^◌, ◌<◌, max, ◌⊎◌, ◌↔◌, sym, ap, ◌∙◌, inl, inr, arith, shr-shr}
use lib.Bits.{bit_or, or_step, or_shr}
use lib.Pow.{shl-shr, field, mod-mod-pow}
use Rattle.std.proofs.lemmas.Nat.{shr_high}
use Rattle.std.proofs.lemmas.Bool.{cases_eq}
use Rattle.masks.specs.Masks.{Bit}

max_one : (x y : ℕ) → x < 2 → y < 2 → max x y ≡ 1 → (x ≡ 1) ⊎ (y ≡ 1)
max_one x y h g e = elim (cases_eq x 1) [ inl z ↦ inl z | inr z ↦ inr (omega arith) ]

pub or_bit : (x y j : ℕ) → Bit (bit_or x y) j ↔ (Bit x j ⊎ Bit y j)
or_bit x y j =
    let u = x / 2 ^ j in
    let v = y / 2 ^ j in
    let e : bit_or x y / 2 ^ j ≡ bit_or (u / 2) (v / 2) * 2 + max (u % 2) (v % 2) = or_shr x y j ∙ or_step u v in
    let f : bit_or x y / 2 ^ j % 2 ≡ max (u % 2) (v % 2) = ap (λ w. w % 2) e ∙ omega arith in (
      λ h. max_one (u % 2) (v % 2) (omega arith) (omega arith) (sym f ∙ h),
      λ h. f ∙ elim h [ inl z ↦ omega arith | inr z ↦ omega arith ],
    )

-- a shift by one in 16 bits
pub shl_bit : (x j : ℕ) → j < 15 → (x * 2 ^ 1 % 2 ^ 16) / 2 ^ suc j % 2 ≡ x / 2 ^ j % 2
shl_bit x j h =
    let d = 14 - j in
    let e : ◌≡◌ {A = ℕ} 16 (d + 1 + suc j) = omega arith in
    let f : 1 + j ≡ suc j = omega arith in
    ap (λ n. (x * 2 ^ 1 % 2 ^ n) / 2 ^ suc j % 2) e
    ∙ ap (λ n. n % 2) (field (x * 2 ^ 1) (d + 1) (suc j))
    ∙ mod-mod-pow (x * 2 ^ 1 / 2 ^ suc j) d 1
    ∙ ap (λ n. x * 2 ^ 1 / 2 ^ n % 2) (sym f)
    ∙ ap (λ n. n % 2) (sym (shr-shr (x * 2 ^ 1) 1 j))
    ∙ ap (λ n. n / 2 ^ j % 2) (shl-shr x 1)

pub shl_even : (x : ℕ) → Bit (x * 2 ^ 1 % 2 ^ 16) 0 → ⊥
shl_even x h = omega arith

pub no_bit : (q x : ℕ) → x < 2 ^ q → x / 2 ^ q % 2 ≡ 0
no_bit q x below =
    let e : x ≡ 0 * 2 ^ q + x = omega arith in
    ap (λ w. w / 2 ^ q % 2) e ∙ ap (λ w. w % 2) (shr_high 0 q x below)
