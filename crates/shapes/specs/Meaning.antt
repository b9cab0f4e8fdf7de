-- When arcs meet a triple expression, and when a node satisfies a shape expression. Assumes nothing.
--     Arcs               the arcs of one node: each a property and an object
--     Relation           which node has which label
--     AtMost k most      k is not above most; no most bounds nothing
--     Met                arcs meet a triple expression
--     Satisfies          a node with these tests and arcs satisfies a shape expression
use Rattle.std.specs.Prelude.{◌≡◌, ℕ, ◌≤◌, Bool, true, ◌⊎◌, List, [], ◌∷◌, Some, None, Option}
use Rattle.shapes.specs.Expr.{Triple, empty, arc, each, some, times, Shape, value, hood, and, or, not}
use Rattle.shapes.specs.Lists.{Split, Parts}

abbrev pub Arcs : Type 0
Arcs = List (ℕ × ℕ)

abbrev pub Relation : Type 1
Relation = ℕ → ℕ → Type 0

abbrev pub AtMost : ℕ → Option ℕ → Type 0
AtMost k (Some most) = k ≤ most
AtMost k None = Unit {0}

-- sets s p says whether the property p is in the set s, and P o l that the node o has the label l
module _ (sets : ℕ → ℕ → Bool) (P : Relation) where
  abbrev pub Met : Triple → Arcs → Type 0
  Met empty zs = zs ≡ []
  Met (arc s l) zs = (p o : ℕ) × (zs ≡ (p, o) ∷ []) × (sets s p ≡ true) × P o l
  Met (each x y) zs = (xs ys : Arcs) × Split zs xs ys × Met x xs × Met y ys
  Met (some x y) zs = Met x zs ⊎ Met y zs
  Met (times x least most) zs = (k : ℕ) × (least ≤ k) × AtMost k most × Parts (Met x) k zs

  -- passes t says whether the test t holds at the node, and zs are all its arcs
  module _ (passes : ℕ → Bool) (zs : Arcs) where
    abbrev pub Satisfies : Shape → Type 0
    Satisfies (value t) = passes t ≡ true
    Satisfies (hood e) = Met e zs
    Satisfies (and a b) = Satisfies a × Satisfies b
    Satisfies (or a b) = Satisfies a ⊎ Satisfies b
    Satisfies (not a) = ¬ Satisfies a
