-- The expression that a row stands for. Assumes nothing.
--     triple_tree rows r             the triple expression of the triple row r
--     shape_tree triples rows r      the shape expression of the shape row r
-- A lawful row names only smaller rows, so r + 1 steps down from the row r are enough.
use Rattle.std.specs.Prelude.{ℕ, zero, suc, List, slice_index_or}
use Rattle.shapes.specs.Expr.{Triple, empty, arc, each, some, times, Shape, value, hood, and, or, not}
use Rattle.draft.specs.declared.rows.ShapeRow.{ShapeRow}
use Rattle.draft.specs.declared.rows.ShapeRow.TheVariants.{Value, Hood, And, Or, Not}
use Rattle.draft.specs.declared.rows.TripleRow.{TripleRow}
use Rattle.draft.specs.declared.rows.TripleRow.TheVariants.{Empty, Arc, Each, Some, Times}

-- a triple row, given what the rows that it names stand for
abbrev pub triple_node : (ℕ → Triple) → TripleRow → Triple
triple_node tree Empty = empty
triple_node tree (Arc s l) = arc s l
triple_node tree (Each a b) = each (tree a) (tree b)
triple_node tree (Some a b) = some (tree a) (tree b)
triple_node tree (Times a least most) = times (tree a) least most

-- a shape row, given what the triple rows and the shape rows that it names stand for
abbrev pub shape_node : (ℕ → Triple) → (ℕ → Shape) → ShapeRow → Shape
shape_node triple tree (Value t) = value t
shape_node triple tree (Hood r) = hood (triple r)
shape_node triple tree (And a b) = and (tree a) (tree b)
shape_node triple tree (Or a b) = or (tree a) (tree b)
shape_node triple tree (Not a) = not (tree a)

-- down to a number of steps; a row past the end stands for EMPTY
unfoldable pub triple_within : List TripleRow → ℕ → ℕ → Triple
triple_within rows zero r = empty
triple_within rows (suc n) r = triple_node (triple_within rows n) (slice_index_or rows r Empty)

abbrev pub triple_tree : List TripleRow → ℕ → Triple
triple_tree rows r = triple_within rows (suc r) r

unfoldable pub shape_within : List TripleRow → List ShapeRow → ℕ → ℕ → Shape
shape_within triples rows zero r = value 0
shape_within triples rows (suc n) r = shape_node (triple_tree triples) (shape_within triples rows n) (slice_index_or rows r (Value 0))

abbrev pub shape_tree : List TripleRow → List ShapeRow → ℕ → Shape
shape_tree triples rows r = shape_within triples rows (suc r) r
