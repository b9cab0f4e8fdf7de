-- Which rows of its own table a row names. Assumes nothing.
--     NamesTriple row p     the triple row names the triple row p
--     NamesShape row p      the shape row names the shape row p
use Rattle.std.specs.Prelude.{◌≡◌, ℕ, ◌⊎◌}
use Rattle.draft.specs.declared.rows.ShapeRow.{ShapeRow}
use Rattle.draft.specs.declared.rows.ShapeRow.TheVariants.{Value, Hood, And, Or, Not}
use Rattle.draft.specs.declared.rows.TripleRow.{TripleRow}
use Rattle.draft.specs.declared.rows.TripleRow.TheVariants.{Empty, Arc, Each, Some, Times}

abbrev pub NamesTriple : TripleRow → ℕ → Type 0
NamesTriple Empty p = ⊥
NamesTriple (Arc s l) p = ⊥
NamesTriple (Each x y) p = (x ≡ p) ⊎ (y ≡ p)
NamesTriple (Some x y) p = (x ≡ p) ⊎ (y ≡ p)
NamesTriple (Times x least most) p = x ≡ p

abbrev pub NamesShape : ShapeRow → ℕ → Type 0
NamesShape (Value t) p = ⊥
NamesShape (Hood e) p = ⊥
NamesShape (And a b) p = (a ≡ p) ⊎ (b ≡ p)
NamesShape (Or a b) p = (a ≡ p) ⊎ (b ≡ p)
NamesShape (Not a) p = a ≡ p
