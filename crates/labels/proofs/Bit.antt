-- The labels of a set that holds one, of a union, and how many a set holds. Assumes nothing.
use Rattle.std.proofs.Common.{◌≡◌, ℕ, zero, suc, ◌+◌, ◌*◌, ◌/◌, ◌%◌, ◌^◌, ◌<◌, Bool, false, cond, ◌&&◌, ◌||◌, eqb, ltb, Some, None, Option, max, sym, refl, ap, ◌∙◌, subst, ap₂, ⊎_elim, add_assoc, arith, shr_lt}
use lib.Bits.{bit_or}
use lib.Count.{ones, ones_step}
use Rattle.std.specs.Int.{bit_at}
use Rattle.std.specs.Option.{SomeIff, unwrap_or}
use Rattle.std.proofs.lemmas.Nat.{one_shl}
use Rattle.std.proofs.lemmas.Nat.Bits.{bit_at-lt, bit_at_or, bit_at-pow_same, bit_at-pow_other, bit_at_lowest, bit_at-suc, bit_at-zero}
use Rattle.std.proofs.lemmas.Bool.{cases_eq, eq-eqb, ne_eqb, lt-ltb, le-ltb}
use Rattle.labels.specs.Members.{how_many}

of_max : (x y : ℕ) → x < 2 → y < 2 → eqb (max x y) 1 ≡ (eqb x 1 || eqb y 1)
of_max zero zero p q = refl
of_max zero (suc zero) p q = refl
of_max (suc zero) zero p q = refl
of_max (suc zero) (suc zero) p q = refl
of_max zero (suc (suc y)) p q = absurd (omega arith)
of_max (suc zero) (suc (suc y)) p q = absurd (omega arith)
of_max (suc (suc x)) y p q = absurd (omega arith)

pub bit_of_or : (a b k : ℕ) → eqb (bit_at (bit_or a b) k) 1 ≡ (eqb (bit_at a k) 1 || eqb (bit_at b k) 1)
bit_of_or a b k = ap (λ x. eqb x 1) (bit_at_or a b k) ∙ of_max (bit_at a k) (bit_at b k) (bit_at-lt a k) (bit_at-lt b k)

bit_of_power : (l k : ℕ) → eqb (bit_at (2 ^ l) k) 1 ≡ eqb l k
bit_of_power l k =
    ⊎_elim
    (λ (e : l ≡ k). ap (λ i. eqb (bit_at (2 ^ l) i) 1) (sym e) ∙ ap (λ x. eqb x 1) (bit_at-pow_same l) ∙ sym (eq-eqb l k e))
    (λ (ne : l ≡ k → ⊥). ap (λ x. eqb x 1) (bit_at-pow_other l k (λ e. ne (sym e))) ∙ sym (ne_eqb l k ne))
    (cases_eq l k)

pub bit_none : (k : ℕ) → eqb (bit_at 0 k) 1 ≡ false
bit_none k = ap (λ x. eqb x 1) (bit_at-zero k)

pub bit_of_one : (l k : ℕ) (o : Option ℕ) → SomeIff o (l < 32) ((1 * 2 ^ l) % 2 ^ 32) → eqb (bit_at (unwrap_or o 0) k) 1 ≡ (ltb l 32 && eqb l k)
bit_of_one l k (Some x) s =
    ap (λ i. eqb (bit_at i k) 1) (s.1 ∙ one_shl l 32 s.0) ∙ bit_of_power l k ∙ ap (λ b. b && eqb l k) (sym (lt-ltb l 32 s.0))
bit_of_one l k None s = bit_none k ∙ ap (λ b. b && eqb l k) (sym (le-ltb l 32 (omega arith)))

how_many_same : (f g : ℕ → Bool) (n : ℕ) → ((k : ℕ) → f k ≡ g k) → how_many f n ≡ how_many g n
unfolding how_many
how_many_same f g zero e = refl
how_many_same f g (suc n) e = ap₂ (λ x y. x + cond y 1 0) (how_many_same f g n e) (e n)

how_many_front : (f : ℕ → Bool) (n : ℕ) → how_many f (suc n) ≡ cond (f 0) 1 0 + how_many (λ k. f (suc k)) n
unfolding how_many
how_many_front f zero = omega arith
how_many_front f (suc n) =
    ap (λ x. x + cond (f (suc n)) 1 0) (how_many_front f n)
    ∙ add_assoc (cond (f 0) 1 0) (how_many (λ k. f (suc k)) n) (cond (f (suc n)) 1 0)

parity : (x : ℕ) → x < 2 → x ≡ cond (eqb x 1) 1 0
parity zero h = refl
parity (suc zero) h = refl
parity (suc (suc x)) h = absurd (omega arith)

pub ones_are : (w n : ℕ) → n < 2 ^ w → ones n ≡ how_many (λ k. eqb (bit_at n k) 1) w
unfolding how_many ones
ones_are zero n h = let z : n ≡ 0 = omega arith in ap ones z
ones_are (suc w) n h =
    ones_step n
    ∙ ap₂ (λ x y. x + y)
    (sym (bit_at_lowest n) ∙ parity (bit_at n 0) (bit_at-lt n 0))
    (ones_are w (n / 2) (shr_lt w 1 (subst (λ x. n < 2 ^ x) (omega arith) h))
    ∙ how_many_same (λ k. eqb (bit_at (n / 2) k) 1) (λ k. eqb (bit_at n (suc k)) 1) w (λ k. ap (λ x. eqb x 1) (sym (bit_at-suc n k))))
    ∙ sym (how_many_front (λ k. eqb (bit_at n k) 1) w)
