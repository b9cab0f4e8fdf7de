-- Tables of answers, a row a node and a column a label. Assumes nothing.
--     Table             the rows
--     shown t           the typing that the table shows; past its rows and columns nothing holds
--     total f m         f 0 + f 1 + .. up to f (m − 1)
--     count N K τ       how many pairs of the first N nodes and K labels the typing has
use Rattle.std.specs.Prelude.{ℕ, zero, suc, ◌+◌, Bool, false, cond, List, [], slice_index_or}
use Rattle.shapes.specs.Typing.{Typing}

abbrev pub Table : Type 0
Table = List (List Bool)

abbrev pub shown : Table → Typing
shown t n l = slice_index_or (slice_index_or t n []) l false

abbrev pub total : (ℕ → ℕ) → ℕ → ℕ
total f zero = 0
total f (suc m) = f m + total f m

abbrev pub count : ℕ → ℕ → Typing → ℕ
count N K τ = total (λ n. total (λ l. cond (τ n l) 1 0) K) N
