-- Which drafts are refused for their tables and rows, and with what. Assumes nothing.
--     Told                 a refusal as it is told: the layer, the number and the place
--     told fault           what a fault stands for
--     refusal answer       what an answer refuses with, if it does
--     row_refusal t        the refusal of the tables t, by their lengths and rows alone
use Rattle.std.specs.Prelude.{◌≡◌, ℕ, suc, Bool, true, cond, ◌&&◌, List, [], ◌∷◌, length, Some, None, Ok, Err, Option, Result, nat_le, nat_lt}
use Rattle.std.specs.Fn.{Shared, AnyResult}
use Rattle.refusal.specs.declared.Layer.{Layer}
use Rattle.refusal.specs.declared.Layer.TheVariants.{Schema}
use Rattle.draft.specs.Tables.{Tables}
use Rattle.draft.specs.declared.fault.SchemaFault.{SchemaFault}
use Rattle.draft.specs.declared.fault.SchemaFault.TheVariants.{TooLong, Definition, ShapeRow as ShapeFault, TripleRow as TripleFault, Bounds, Negation, ShortBuffer}
use Rattle.draft.specs.declared.fault.Table.{Table}
use Rattle.draft.specs.declared.fault.Table.TheVariants.{Labels, ShapeRows, TripleRows, Sets}
use Rattle.draft.specs.declared.rows.ShapeRow.{ShapeRow}
use Rattle.draft.specs.declared.rows.ShapeRow.TheVariants.{Value, Hood, And, Or, Not}
use Rattle.draft.specs.declared.rows.TripleRow.{TripleRow}
use Rattle.draft.specs.declared.rows.TripleRow.TheVariants.{Empty, Arc, Each, Some as SomeOf, Times}

-- a refusal names a row of a table, the reference from one label to another, or no place
pub data Place : Type 0 where
  row : Table → ℕ → Place
  reference : ℕ → ℕ → Place
  nowhere : Place

abbrev pub Told : Type 0
Told = Layer × ℕ × Place

-- how many rows a table may have
abbrev pub limit : Table → ℕ
limit Labels = 32
limit ShapeRows = 128
limit TripleRows = 128
limit Sets = 32

abbrev pub told : SchemaFault → Told
told (TooLong table) = (Schema, 1, row table (limit table))
told (Definition l) = (Schema, 2, row Labels l)
told (ShapeFault r) = (Schema, 3, row ShapeRows r)
told (TripleFault r) = (Schema, 4, row TripleRows r)
told (Bounds r) = (Schema, 5, row TripleRows r)
told (Negation l k) = (Schema, 6, reference l k)
told ShortBuffer = (Schema, 15, nowhere)

abbrev pub refusal : {A : Type 0} → Result A SchemaFault → Option Told
refusal (Ok a) = None
refusal (Err fault) = Some (told fault)

-- the first of two refusals, if there is one
abbrev pub or_else : Option Told → Option Told → Option Told
or_else None next = next
or_else (Some first) next = Some first

-- the first refusal of a row, in rising order; the rows are numbered from i
abbrev pub first_from : {A : Type 0} → (ℕ → A → Option Told) → ℕ → List A → Option Told
first_from test i [] = None
first_from test i (x ∷ xs) = or_else (test i x) (first_from test (suc i) xs)

-- each answer of the check is what the test says of the row and its number
abbrev pub AnswersBy : {F A : Type 0} → Shared F (ℕ × (A × Unit {0})) (Result (Unit {0}) SchemaFault) → F → (ℕ → A → Option Told) → Type 0
AnswersBy {A = A} g check test = (i : ℕ) (x : A) → AnyResult g check (i, (x, tt)) (λ answer. refusal answer ≡ test i x)

-- a shape row r names smaller shape rows; HOOD names a triple row that is there
abbrev pub shape_names : (triples : ℕ) → ℕ → ShapeRow → Bool
shape_names triples r (Value t) = true
shape_names triples r (Hood e) = nat_lt e triples
shape_names triples r (And a b) = nat_lt a r && nat_lt b r
shape_names triples r (Or a b) = nat_lt a r && nat_lt b r
shape_names triples r (Not a) = nat_lt a r

-- a triple row r names smaller triple rows; ARC names a set and a label that are there
abbrev pub triple_names : (sets labels : ℕ) → ℕ → TripleRow → Bool
triple_names sets labels r Empty = true
triple_names sets labels r (Arc s l) = nat_lt s sets && nat_lt l labels
triple_names sets labels r (Each a b) = nat_lt a r && nat_lt b r
triple_names sets labels r (SomeOf a b) = nat_lt a r && nat_lt b r
triple_names sets labels r (Times a least most) = nat_lt a r

-- the most of a TIMES is not below its least
abbrev pub ordered : TripleRow → Bool
ordered Empty = true
ordered (Arc s l) = true
ordered (Each a b) = true
ordered (SomeOf a b) = true
ordered (Times a least None) = true
ordered (Times a least (Some most)) = nat_le least most

abbrev pub length_refusal : Table → ℕ → Option Told
length_refusal table n = cond (nat_le n (limit table)) None (Some (told (TooLong table)))

-- a definition is a shape row
abbrev pub definition_refusal : (shapes : ℕ) → ℕ → ℕ → Option Told
definition_refusal shapes l r = cond (nat_lt r shapes) None (Some (told (Definition l)))

abbrev pub shape_refusal : (triples : ℕ) → ℕ → ShapeRow → Option Told
shape_refusal triples r x = cond (shape_names triples r x) None (Some (told (ShapeFault r)))

abbrev pub triple_refusal : (sets labels : ℕ) → ℕ → TripleRow → Option Told
triple_refusal sets labels r x =
    cond (triple_names sets labels r x) (cond (ordered x) None (Some (told (Bounds r)))) (Some (told (TripleFault r)))

abbrev pub too_long : Tables → Option Told
too_long t =
    or_else (length_refusal Labels (length t.definitions))
    (or_else (length_refusal ShapeRows (length t.shapes))
    (or_else (length_refusal TripleRows (length t.triples)) (length_refusal Sets (length t.sets))))

-- lengths, then definitions, then shape rows, then triple rows
unfoldable pub row_refusal : Tables → Option Told
row_refusal t =
    or_else (too_long t)
    (or_else (first_from (definition_refusal (length t.shapes)) 0 t.definitions)
    (or_else (first_from (shape_refusal (length t.triples)) 0 t.shapes)
    (first_from (triple_refusal (length t.sets) (length t.definitions)) 0 t.triples)))
