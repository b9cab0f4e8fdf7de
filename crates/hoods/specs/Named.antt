-- Which flags of triple rows are whole. Assumes nothing.
--     Whole rows flags    with each row that has a flag, the rows that it names have one
use Rattle.std.specs.Prelude.{ℕ, ◌<◌, Bool, List, length, slice_index_or}
use Rattle.draft.specs.Named.{NamesTriple}
use Rattle.draft.specs.declared.rows.TripleRow.{TripleRow}
use Rattle.draft.specs.declared.rows.TripleRow.TheVariants.{Empty}
use Rattle.masks.specs.Masks.{On}

abbrev pub Whole : List TripleRow → List Bool → Type 0
Whole rows flags = (r p : ℕ) → r < length rows → On flags r → NamesTriple (slice_index_or rows r Empty) p → On flags p
