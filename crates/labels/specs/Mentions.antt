-- Which labels stand in an expression, as tests, and what sets of labels say of it row by row. Assumes nothing.
-- An ARC counts if its property set passes the test has.
--     has_arc has e k, mentions has e k     an ARC that counts stands in e, and its label is k
--     negates has e k                       such an ARC stands below at least one NOT
--     .. _by                                the same of a row, by the sets of the rows that it names
use Rattle.std.specs.Prelude.{ℕ, Bool, false, ◌&&◌, ◌||◌, ◌==◌}
use Rattle.shapes.specs.Expr.{Triple, empty, arc, each, some, times, Shape, value, hood, and, or, not}
use Rattle.draft.specs.declared.rows.ShapeRow.{ShapeRow}
use Rattle.draft.specs.declared.rows.ShapeRow.TheVariants.{Value, Hood, And, Or, Not}
use Rattle.draft.specs.declared.rows.TripleRow.{TripleRow}
use Rattle.draft.specs.declared.rows.TripleRow.TheVariants.{Empty, Arc, Each, Some, Times}

module _ (has : ℕ → Bool) where
  abbrev pub has_arc : Triple → ℕ → Bool
  has_arc empty k = false
  has_arc (arc s l) k = has s && l == k
  has_arc (each x y) k = has_arc x k || has_arc y k
  has_arc (some x y) k = has_arc x k || has_arc y k
  has_arc (times x least most) k = has_arc x k

  abbrev pub mentions : Shape → ℕ → Bool
  mentions (value t) k = false
  mentions (hood e) k = has_arc e k
  mentions (and a b) k = mentions a k || mentions b k
  mentions (or a b) k = mentions a k || mentions b k
  mentions (not a) k = mentions a k

  abbrev pub negates : Shape → ℕ → Bool
  negates (value t) k = false
  negates (hood e) k = false
  negates (and a b) k = negates a k || negates b k
  negates (or a b) k = negates a k || negates b k
  negates (not a) k = mentions a k

abbrev pub arcs_by : (ℕ → Bool) → (ℕ → ℕ → Bool) → TripleRow → ℕ → Bool
arcs_by has arcs Empty k = false
arcs_by has arcs (Arc s l) k = has s && l == k
arcs_by has arcs (Each a b) k = arcs a k || arcs b k
arcs_by has arcs (Some a b) k = arcs a k || arcs b k
arcs_by has arcs (Times a least most) k = arcs a k

abbrev pub mentions_by : (ℕ → ℕ → Bool) → (ℕ → ℕ → Bool) → ShapeRow → ℕ → Bool
mentions_by arcs rows (Value t) k = false
mentions_by arcs rows (Hood e) k = arcs e k
mentions_by arcs rows (And a b) k = rows a k || rows b k
mentions_by arcs rows (Or a b) k = rows a k || rows b k
mentions_by arcs rows (Not a) k = rows a k

abbrev pub negates_by : (ℕ → ℕ → Bool) → (ℕ → ℕ → Bool) → ShapeRow → ℕ → Bool
negates_by mentioned rows (Value t) k = false
negates_by mentioned rows (Hood e) k = false
negates_by mentioned rows (And a b) k = rows a k || rows b k
negates_by mentioned rows (Or a b) k = rows a k || rows b k
negates_by mentioned rows (Not a) k = mentioned a k
