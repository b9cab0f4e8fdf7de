-- What holds of tables that are not refused. Assumes nothing.
--     Lawful t     each table is short enough, each row names only what it may, and each label refers to labels that are there
--     AreLawful         tables that are not refused are lawful
--     Unfolds      there a row stands for its own case over what the rows that it names stand for
use Rattle.std.specs.Prelude.{◌≡◌, ℕ, ◌<◌, ◌≤◌, true, length, None, slice_index, slice_index_or}
use Rattle.shapes.specs.References.{Refers}
use Rattle.draft.specs.Refusals.{shape_names, triple_names, ordered, row_refusal}
use Rattle.draft.specs.Rows.{triple_node, triple_tree, shape_node, shape_tree}
use Rattle.draft.specs.Tables.{Tables, schema_of}
use Rattle.draft.specs.declared.rows.ShapeRow.TheVariants.{Value}
use Rattle.draft.specs.declared.rows.TripleRow.TheVariants.{Empty}

pub record Lawful (t : Tables) : Type 0 where
  pub few_labels : length t.definitions ≤ 32
  pub few_shapes : length t.shapes ≤ 128
  pub few_triples : length t.triples ≤ 128
  pub few_sets : length t.sets ≤ 32
  pub defined : (l : ℕ) → l < length t.definitions → slice_index t.definitions l < length t.shapes
  pub shape_rows : (r : ℕ) → r < length t.shapes → shape_names (length t.triples) r (slice_index_or t.shapes r (Value 0)) ≡ true
  pub triple_rows : (r : ℕ) → r < length t.triples
      → triple_names (length t.sets) (length t.definitions) r (slice_index_or t.triples r Empty) ≡ true
  pub in_order : (r : ℕ) → r < length t.triples → ordered (slice_index_or t.triples r Empty) ≡ true
  pub known : (l k : ℕ) → Refers (schema_of t) l k → k < length t.definitions

abbrev pub AreLawful : Type 0
AreLawful = (t : Tables) → row_refusal t ≡ None → Lawful t

abbrev pub Unfolds : Type 0
Unfolds = (t : Tables) → row_refusal t ≡ None
    → ((r : ℕ) → r < length t.triples → triple_tree t.triples r ≡ triple_node (triple_tree t.triples) (slice_index_or t.triples r Empty))
    × ((r : ℕ) → r < length t.shapes
    → shape_tree t.triples t.shapes r ≡ shape_node (triple_tree t.triples) (shape_tree t.triples t.shapes) (slice_index_or t.shapes r (Value 0)))
