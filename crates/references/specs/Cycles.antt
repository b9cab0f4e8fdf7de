-- The negated reference on a cycle that a refusal names. Assumes nothing.
--     FirstOnCycle S l k     the negated reference from l to k lies on a cycle; no such reference
--                            starts at a lower label, and none from l leads to a lower label
--     Lowest o f             o is the lowest number below 32 that passes the test f, if there is one
use Rattle.std.specs.Prelude.{◌≡◌, ℕ, ◌<◌, ◌≤◌, Bool, true, false, ◌&&◌, List, Some, None, Option, slice_index_or}
use Rattle.shapes.specs.Expr.{Schema}
use Rattle.shapes.specs.References.{OnCycle}
use Rattle.labels.specs.Members.{member, in_row}
use Rattle.labels.specs.Rows.{no_labels}
use Rattle.labels.specs.declared.label_set.LabelSet.{LabelSet}
use Rattle.labels.specs.declared.mentions.RowLabels.{RowLabels}

pub record FirstOnCycle (S : Schema) (l k : ℕ) : Type 0 where
  pub on_cycle : OnCycle S l k
  pub lowest_from : (i j : ℕ) → OnCycle S i j → l ≤ i
  pub lowest_to : (j : ℕ) → OnCycle S l j → k ≤ j

-- the label k is in the set s, and in us the set of k holds l
abbrev pub leads_back : LabelSet → List LabelSet → ℕ → ℕ → Bool
leads_back s us l k = member s k && in_row us k l

-- in rs the second set of l holds k, and in us the set of k holds l
abbrev pub closes : List RowLabels → List LabelSet → ℕ → ℕ → Bool
closes rs us l = leads_back (slice_index_or rs l no_labels).negated us l

abbrev pub Lowest : Option ℕ → (ℕ → Bool) → Type 0
Lowest None f = (k : ℕ) → k < 32 → f k ≡ false
Lowest (Some k) f = (k < 32) × (f k ≡ true) × ((j : ℕ) → j < k → f j ≡ false)
