-- Which triple row a shape row names, and where a definition leads. Assumes nothing.
--     Hoods row e           the row is the HOOD of the triple row e
--     Leads rows d r        names lead from the row d to the row r; r = d counts
--     Asks t wanted e       the definition of a wanted label leads to a HOOD of the triple row e
use Rattle.std.specs.Prelude.{◌≡◌, ℕ, ◌<◌, Bool, List, length, slice_index, slice_index_or}
use Rattle.draft.specs.Named.{NamesShape}
use Rattle.draft.specs.Tables.{Tables}
use Rattle.draft.specs.declared.rows.ShapeRow.{ShapeRow}
use Rattle.draft.specs.declared.rows.ShapeRow.TheVariants.{Value, Hood, And, Or, Not}
use Rattle.masks.specs.Masks.{On}

abbrev pub Hoods : ShapeRow → ℕ → Type 0
Hoods (Value t) e = ⊥
Hoods (Hood x) e = x ≡ e
Hoods (And a b) e = ⊥
Hoods (Or a b) e = ⊥
Hoods (Not a) e = ⊥

pub data Leads (rows : List ShapeRow) (d : ℕ) : ℕ → Type 0 where
  here : Leads rows d d
  on : {r p : ℕ} → Leads rows d r → NamesShape (slice_index_or rows r (Value 0)) p → Leads rows d p

abbrev pub Asks : Tables → List Bool → ℕ → Type 0
Asks t wanted e =
    (l r : ℕ) × (l < length t.definitions) × On wanted l × Leads t.shapes (slice_index t.definitions l) r × Hoods (slice_index_or t.shapes r (Value 0)) e
