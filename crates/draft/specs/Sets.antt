-- Which properties a set holds. Assumes nothing.
--     in_set s p        the property p is in the set s: bit p % 64 of the word p / 64 is 1
--     no_properties     the set that holds no property
use Rattle.std.specs.Prelude.{ℕ, ◌/◌, ◌%◌, ◌^◌, Bool, [], ◌∷◌, ◌==◌, slice_index}
use Rattle.draft.specs.declared.set.PropertySet.{PropertySet}

abbrev pub in_set : PropertySet → ℕ → Bool
in_set s p = slice_index s.words (p / 64) / 2 ^ (p % 64) % 2 == 1

abbrev pub no_properties : PropertySet
no_properties = record { words = 0 ∷ 0 ∷ 0 ∷ 0 ∷ [] }
