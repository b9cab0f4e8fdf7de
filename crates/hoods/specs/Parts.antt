-- The part of a list that a mask keeps. Assumes nothing.
--     kept m zs     the elements of zs at the places of the mask m; the first element is the top place
use Rattle.std.specs.Prelude.{ℕ, ◌-◌, ◌^◌, cond, List, [], ◌∷◌, length, nat_le}

abbrev pub kept : {A : Type 0} → ℕ → List A → List A
kept m [] = []
kept m (z ∷ zs) = cond (nat_le (2 ^ length zs) m) (z ∷ kept (m - 2 ^ length zs) zs) (kept m zs)
