-- What a label's stratum owes to those of the labels that it refers to. Assumes nothing.
--     Keeps s refers negated t            s is not below t if refers, and above t if negated
--     Above s refers negated strata n     of the labels below n, s is not below the stratum of any that refers holds,
--                                         and above that of any that negated holds
--     Placed rs strata l                  the stratum of l is 1 to 32, and keeps to its references in rs
use Rattle.std.specs.Prelude.{◌≡◌, ℕ, ◌<◌, ◌≤◌, Bool, true, List, length, slice_index}
use Rattle.labels.specs.Rows.{mentioned_in, negated_in}
use Rattle.labels.specs.declared.mentions.RowLabels.{RowLabels}

abbrev pub Keeps : ℕ → Bool → Bool → ℕ → Type 0
Keeps s refers negated t = (refers ≡ true → t ≤ s) × (negated ≡ true → t < s)

abbrev pub Above : ℕ → (ℕ → Bool) → (ℕ → Bool) → List ℕ → ℕ → Type 0
Above s refers negated strata n =
    (k : ℕ) → k < n → Keeps s (refers k) (negated k) (slice_index strata k)

abbrev pub Placed : List RowLabels → List ℕ → ℕ → Type 0
Placed rs strata l =
    (1 ≤ slice_index strata l) × (slice_index strata l ≤ 32)
    × Above (slice_index strata l) (mentioned_in rs l) (negated_in rs l) strata (length strata)
