-- A table that is asked past its end. Assumes nothing.
--     holds_at table i p   entry i is there, and p holds of it: past the end nothing does
use Rattle.std.specs.Prelude.{ℕ, Bool, false, List, Some, None}
use Rattle.std.specs.List.{slice_get}

abbrev pub holds_at : {X : Type 0} → List X → ℕ → (X → Bool) → Bool
holds_at table i p = elim (slice_get table i) [ None ↦ false | Some x ↦ p x ]
