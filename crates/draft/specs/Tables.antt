-- The four tables of a draft, and the schema that they mean. Assumes nothing.
--     Tables         each label's definition, the shape rows, the triple rows and the property sets
--     lent d         the tables that the draft d lends
--     no_rows        the tables that have no rows
--     schema_of t    the schema that the tables t mean
use Rattle.std.specs.Prelude.{ℕ, List, [], length, slice_index, slice_index_or}
use Rattle.shapes.specs.Expr.{Schema}
use Rattle.draft.specs.Rows.{shape_tree}
use Rattle.draft.specs.Sets.{in_set, no_properties}
use Rattle.draft.specs.declared.draft.Draft.{Draft}
use Rattle.draft.specs.declared.rows.ShapeRow.{ShapeRow}
use Rattle.draft.specs.declared.rows.TripleRow.{TripleRow}
use Rattle.draft.specs.declared.set.PropertySet.{PropertySet}

pub record Tables : Type 0 where
  pub definitions : List ℕ
  pub shapes : List ShapeRow
  pub triples : List TripleRow
  pub sets : List PropertySet

abbrev pub lent : Draft → Tables
lent d = record { definitions = d.definitions.now; shapes = d.shapes.now; triples = d.triples.now; sets = d.sets.now }

abbrev pub no_rows : Tables
no_rows = record { definitions = []; shapes = []; triples = []; sets = [] }

-- no property is in a set past the end of the table
abbrev pub schema_of : Tables → Schema
schema_of t =
    record {
      labels = length t.definitions;
      sets = λ s. in_set (slice_index_or t.sets s no_properties);
      definition = λ l. shape_tree t.triples t.shapes (slice_index t.definitions l);
    }
