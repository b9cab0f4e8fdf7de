-- A search that marks nodes and keeps those that wait for their visit. Assumes nothing.
--     graph_of nodes arcs passes     the graph with these nodes, arcs and tests
--     marked marks n                 the node n is marked
--     unmarked marks                 how many are not
--     Grown W ..                     some nodes of W were marked, and each that was not marked before waits
--     Searching ..                   what is marked reaches s, and what leads to a marked node is marked, unless that node waits
use Rattle.std.specs.Prelude.{◌≡◌, ℕ, ◌+◌, ◌≤◌, Bool, true, false, not, ◌⊎◌, List, length, count_by, slice_index_or}
use Rattle.shapes.specs.Leaning.{Reaches}
use Rattle.shapes.specs.Lists.{Member}
use Rattle.shapes.specs.Typing.{Graph}
use Rattle.upstream.specs.Arcs.{Leads}

abbrev pub graph_of : ℕ → (ℕ → List (ℕ × ℕ)) → (ℕ → ℕ → Bool) → Graph
graph_of nodes arcs passes = record { nodes = nodes; arcs = arcs; passes = passes }

abbrev pub marked : List Bool → ℕ → Bool
marked marks n = slice_index_or marks n false

abbrev pub unmarked : List Bool → ℕ
unmarked marks = count_by not marks

pub record Grown (W : ℕ → Type 0) (before : List Bool) (waiting : List ℕ) (after : List Bool) (waiting' : List ℕ) : Type 0 where
  pub kept : (n : ℕ) → marked before n ≡ true → marked after n ≡ true
  pub more : (n : ℕ) → marked after n ≡ true → (marked before n ≡ true) ⊎ (W n × Member n waiting')
  pub stays : (n : ℕ) → Member n waiting → Member n waiting'
  pub only : (n : ℕ) → Member n waiting' → Member n waiting ⊎ (marked after n ≡ true)
  pub number : length waiting' + unmarked after ≡ length waiting + unmarked before
  pub fewer : unmarked after ≤ unmarked before

pub record Searching (G : Graph) (s : ℕ) (marks : List Bool) (waiting : List ℕ) : Type 0 where
  pub subject : marked marks s ≡ true
  pub reaches : (n : ℕ) → marked marks n ≡ true → Reaches G s n
  pub wait : (n : ℕ) → Member n waiting → marked marks n ≡ true
  pub visited : (n o : ℕ) → marked marks o ≡ true → Leads G.arcs n o → Member o waiting ⊎ (marked marks n ≡ true)
