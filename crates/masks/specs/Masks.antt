-- Masks of n places as numbers below 2^n: the first place is the top bit. Assumes nothing.
--     On t m           the set t has the mask m
--     Bit x j          bit j of x is 1
--     Apart n s d      s and d are disjoint masks of n places, so that s + d is the two together
--     Splits n a b m   m is a mask of a and a disjoint mask of b together
--     Single t n m     m is one place, which t marks
--     Chain a j m      m is j disjoint masks of a together, each with the first place of what is left
use Rattle.std.specs.Prelude.{◌≡◌, ℕ, zero, suc, ◌+◌, ◌-◌, ◌/◌, ◌%◌, ◌^◌, ◌<◌, Bool, true, false, List, slice_index_or}

abbrev pub On : List Bool → ℕ → Type 0
On t m = slice_index_or t m false ≡ true

abbrev pub Bit : ℕ → ℕ → Type 0
Bit x j = x / 2 ^ j % 2 ≡ 1

-- the first place belongs to neither, to s, or to d
pub data Apart : ℕ → ℕ → ℕ → Type 0 where
  none : Apart 0 0 0
  out : {n s d : ℕ} → Apart n s d → Apart (suc n) s d
  left : {n s d : ℕ} → Apart n s d → Apart (suc n) (2 ^ n + s) d
  right : {n s d : ℕ} → Apart n s d → Apart (suc n) s (2 ^ n + d)

abbrev pub Splits : ℕ → List Bool → List Bool → ℕ → Type 0
Splits n a b m = (s d : ℕ) × Apart n s d × (s + d ≡ m) × On a s × On b d

-- one of the first i places
abbrev pub Among : List Bool → ℕ → ℕ → ℕ → Type 0
Among t n i m = (j : ℕ) × (j < i) × On t j × (m ≡ 2 ^ (n - 1 - j))

abbrev pub Single : List Bool → ℕ → ℕ → Type 0
Single t n m = Among t n n m

abbrev pub Chain : List Bool → ℕ → ℕ → Type 0
Chain a zero m = m ≡ 0
Chain a (suc j) m = (i s d : ℕ) × Apart i s d × (m ≡ 2 ^ i + (s + d)) × On a (2 ^ i + s) × Chain a j d
