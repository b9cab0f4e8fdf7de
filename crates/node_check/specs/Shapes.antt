-- Which shape rows hold at a node, by flags. Assumes nothing.
--     row_holds passes met holds row     whether the row holds, by the flags of the triple rows and of the shape rows that it names
--     Settled .. rows n holds            the flag of each of the first n rows is right by the flags of those that it names
use Rattle.std.specs.Prelude.{◌≡◌, ℕ, ◌<◌, Bool, false, not, ◌&&◌, ◌||◌, List, slice_index_or}
use Rattle.draft.specs.declared.rows.ShapeRow.{ShapeRow}
use Rattle.draft.specs.declared.rows.ShapeRow.TheVariants.{Value, Hood, And, Or, Not}

abbrev pub row_holds : (ℕ → Bool) → List Bool → List Bool → ShapeRow → Bool
row_holds passes met holds (Value t) = passes t
row_holds passes met holds (Hood e) = slice_index_or met e false
row_holds passes met holds (And a b) = slice_index_or holds a false && slice_index_or holds b false
row_holds passes met holds (Or a b) = slice_index_or holds a false || slice_index_or holds b false
row_holds passes met holds (Not a) = not (slice_index_or holds a false)

abbrev pub Settled : (ℕ → Bool) → List Bool → List ShapeRow → ℕ → List Bool → Type 0
Settled passes met rows n holds = (r : ℕ) → r < n → slice_index_or holds r false ≡ row_holds passes met holds (slice_index_or rows r (Value 0))
