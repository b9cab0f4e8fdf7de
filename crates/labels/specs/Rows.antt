-- The two sets of labels of each row or definition. Assumes nothing.
--     mentioned_in rows r k, negated_in rows r k     the label k is in the first, in the second set of row r
--     no_labels                                      the sets of a row in which no label stands
--     admitted test sets s                           the property set s of the table passes the test
use Rattle.std.specs.Prelude.{ℕ, Bool, List, slice_index_or}
use Rattle.draft.specs.Sets.{no_properties}
use Rattle.draft.specs.declared.set.PropertySet.{PropertySet}
use Rattle.labels.specs.Members.{member, none}
use Rattle.labels.specs.declared.mentions.RowLabels.{RowLabels}

abbrev pub no_labels : RowLabels
no_labels = record { mentioned = none; negated = none }

abbrev pub mentioned_in : List RowLabels → ℕ → ℕ → Bool
mentioned_in rows r k = member (slice_index_or rows r no_labels).mentioned k

abbrev pub negated_in : List RowLabels → ℕ → ℕ → Bool
negated_in rows r k = member (slice_index_or rows r no_labels).negated k

-- of a set past the end of the table, what the test says of the empty set
abbrev pub admitted : (PropertySet → Bool) → List PropertySet → ℕ → Bool
admitted test sets s = test (slice_index_or sets s no_properties)
