-- Worked cases: one table of questions with the answers that the definitions must give. Assumes nothing.
--     Term, graph        what a node is, and a graph from the terms, the tests (whole number from .. to ..) and the arcs
--     schema             a schema from its property sets and its definitions
--     Case               a question with its answer
--     Right c            the definitions give that answer
--     cases, Cases       the table, and that each line of it is right
use Rattle.std.specs.Prelude.{◌≡◌, ℕ, ◌<◌, ◌≤◌, Bool, true, false, ◌&&◌, ◌||◌, ◌⊎◌, ◌↔◌, List, [], ◌∷◌, length, take, Some, None, All, ◌==◌, nat_le, slice_index_or}
use Rattle.shapes.specs.Expr.{arc, each, times, Shape, value, hood, not, Schema}
use Rattle.shapes.specs.References.{OnCycle, Stratification}
use Rattle.shapes.specs.Lists.{Member}
use Rattle.shapes.specs.Meaning.{Arcs}
use Rattle.shapes.specs.Typing.{Graph, In, Maximal}
use Rattle.shapes.specs.Tables.{Table, shown, count}
use Rattle.shapes.specs.Leaning.{Reached}

pub data Term : Type 0 where
  iri : Term
  text : Term
  whole : ℕ → Term

abbrev pub whole_within : ℕ × ℕ → Term → Bool
whole_within ends iri = false
whole_within ends text = false
whole_within ends (whole v) = nat_le ends.0 v && nat_le v ends.1

abbrev pub graph : List Term → List (ℕ × ℕ) → List Arcs → Graph
graph terms tests arcs =
    record { nodes = length terms; arcs = λ n. slice_index_or arcs n []; passes = λ n t. whole_within (slice_index_or tests t (1, 0)) (slice_index_or terms n iri) }

abbrev pub has : List ℕ → ℕ → Bool
has [] p = false
has (q ∷ qs) p = q == p || has qs p

abbrev pub schema : List (List ℕ) → List Shape → Schema
schema sets shapes =
    record { labels = length shapes; sets = λ s p. has (slice_index_or sets s []) p; definition = λ l. slice_index_or shapes l (value 0) }

pub data Case : Type 0 where
  -- the maximal typing, and how many pairs it has
  typing : Schema → Graph → Table → ℕ → Case
  -- the pairs that a first look at the node and the label holds, and that each is a yes
  look : Schema → Graph → ℕ × ℕ → List (ℕ × ℕ) → Case
  -- the lowest label with a negated reference on a cycle, and the lowest label that it so refers to
  cycle : Schema → ℕ × ℕ → Case

abbrev pub Right : Case → Type 0
Right (typing S G t c) =
    Stratification S (λ l. 1)
    × ((σ : ℕ → ℕ) → Stratification S σ → (n l : ℕ) → In (shown t) n l ↔ Maximal S G σ n l)
    × (count G.nodes S.labels (shown t) ≡ c)
Right (look S G at pairs) =
    ((o k : ℕ) → Member (o, k) pairs ↔ Reached S G at.0 at.1 o k)
    × ((σ : ℕ → ℕ) → Stratification S σ → (o k : ℕ) → Member (o, k) pairs → Maximal S G σ o k)
Right (cycle S at) =
    OnCycle S at.0 at.1
    × ((l k : ℕ) → OnCycle S l k → (at.0 < l) ⊎ ((at.0 ≡ l) × (at.1 ≤ k)))

-- the small house: two rooms that lead to each other, each with one reading; node 2 is the reading, node 3 is text
abbrev pub rooms : Schema
rooms = schema ((2 ∷ []) ∷ (1 ∷ []) ∷ []) (hood (each (arc 0 1) (times (arc 1 0) 0 None)) ∷ value 0 ∷ [])

abbrev pub house : ℕ → List Arcs → Graph
house reading arcs = graph (iri ∷ iri ∷ whole reading ∷ text ∷ []) ((1, 200) ∷ []) arcs

abbrev pub all_arcs : List Arcs
all_arcs = ((2, 2) ∷ (1, 1) ∷ []) ∷ ((2, 2) ∷ (1, 0) ∷ []) ∷ []

abbrev pub one_reading : List Arcs
one_reading = ((2, 2) ∷ (1, 1) ∷ []) ∷ ((1, 0) ∷ []) ∷ []

-- whether the rooms have the label 0, and whether the reading has the label 1
abbrev pub house_typing : Bool → Bool → Table
house_typing room reading = (room ∷ false ∷ []) ∷ (room ∷ false ∷ []) ∷ (false ∷ reading ∷ []) ∷ (false ∷ false ∷ []) ∷ []

-- two to three arcs, out of a node with arcs to the first k of four numbers
abbrev pub two_or_three : Schema
two_or_three = schema ((1 ∷ []) ∷ []) (hood (times (arc 0 1) 2 (Some 3)) ∷ value 0 ∷ [])

abbrev pub fan : ℕ → Graph
fan k = graph (iri ∷ whole 1 ∷ whole 2 ∷ whole 3 ∷ whole 4 ∷ []) ((0, 9) ∷ []) (take k ((1, 1) ∷ (1, 2) ∷ (1, 3) ∷ (1, 4) ∷ []) ∷ [])

-- whether the node has the label 0; each number has the label 1
abbrev pub fan_typing : Bool → Table
fan_typing met = (met ∷ false ∷ []) ∷ (false ∷ true ∷ []) ∷ (false ∷ true ∷ []) ∷ (false ∷ true ∷ []) ∷ (false ∷ true ∷ []) ∷ []

-- one number from 0 to 9 and any from 0 to 4, out of a node with arcs to two numbers
abbrev pub one_and_rest : Schema
one_and_rest = schema ((1 ∷ []) ∷ []) (hood (each (arc 0 1) (times (arc 0 2) 0 None)) ∷ value 0 ∷ value 1 ∷ [])

abbrev pub two_numbers : ℕ → ℕ → Graph
two_numbers a b = graph (iri ∷ whole a ∷ whole b ∷ []) ((0, 9) ∷ (0, 4) ∷ []) (((1, 1) ∷ (1, 2) ∷ []) ∷ [])

-- a negation on a cycle of two labels, and two negations on a cycle of one
abbrev pub each_other : Schema
each_other = schema ((1 ∷ []) ∷ []) (not (hood (arc 0 1)) ∷ not (hood (arc 0 0)) ∷ [])

abbrev pub itself_twice : Schema
itself_twice = schema ((1 ∷ []) ∷ []) (not (not (hood (arc 0 0))) ∷ [])

abbrev pub cases : List Case
cases =
    typing rooms (house 110 all_arcs) (house_typing true true) 3
    ∷ look rooms (house 110 all_arcs) (0, 0) ((0, 0) ∷ (1, 0) ∷ (2, 1) ∷ [])
    ∷ typing rooms (house 110 one_reading) (house_typing false true) 1
    ∷ typing rooms (house 200 all_arcs) (house_typing true true) 3
    ∷ typing rooms (house 201 all_arcs) (house_typing false false) 0
    ∷ typing rooms (house 0 all_arcs) (house_typing false false) 0
    ∷ cycle each_other (0, 1)
    ∷ cycle itself_twice (0, 0)
    ∷ typing two_or_three (fan 1) (fan_typing false) 4
    ∷ typing two_or_three (fan 2) (fan_typing true) 5
    ∷ typing two_or_three (fan 3) (fan_typing true) 5
    ∷ typing two_or_three (fan 4) (fan_typing false) 4
    ∷ typing one_and_rest (two_numbers 3 7) ((true ∷ false ∷ false ∷ []) ∷ (false ∷ true ∷ true ∷ []) ∷ (false ∷ true ∷ false ∷ []) ∷ []) 4
    ∷ typing one_and_rest (two_numbers 7 8) ((false ∷ false ∷ false ∷ []) ∷ (false ∷ true ∷ false ∷ []) ∷ (false ∷ true ∷ false ∷ []) ∷ []) 2
    ∷ []

abbrev pub Cases : Type 0
Cases = All Right cases
