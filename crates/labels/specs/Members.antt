-- Which labels a set of labels holds. Assumes nothing.
--     member s k          the label k is in the set s: bit k is 1
--     none                the set that holds no label
--     in_row sets r k     the label k is in the set of row r
--     how_many f n        how many of the numbers below n pass the test f
use Rattle.std.specs.Prelude.{ℕ, zero, suc, ◌+◌, Bool, cond, List, ◌==◌, slice_index_or}
use Rattle.std.specs.Int.{bit_at}
use Rattle.labels.specs.declared.label_set.LabelSet.{LabelSet}

abbrev pub member : LabelSet → ℕ → Bool
member s k = bit_at s.bits k == 1

abbrev pub none : LabelSet
none = record { bits = 0 }

abbrev pub in_row : List LabelSet → ℕ → ℕ → Bool
in_row sets r k = member (slice_index_or sets r none) k

unfoldable pub how_many : (ℕ → Bool) → ℕ → ℕ
how_many f zero = 0
how_many f (suc n) = how_many f n + cond (f n) 1 0
