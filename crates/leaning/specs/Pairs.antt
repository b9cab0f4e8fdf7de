-- Pairs of node and label as bytes, a row of labels for each node. Assumes nothing.
--     Clean count bytes                the first bytes are 0 or 1
--     accepted ..                      (n, l) is a pair, and slices of these lengths have an element for each pair
--     graph_of nodes arcs passes       the graph with these nodes, arcs and tests
use Rattle.std.specs.Prelude.{ℕ, ◌*◌, ◌<◌, ◌≤◌, Bool, ◌&&◌, List, nat_le, nat_lt, slice_index}
use Rattle.shapes.specs.Typing.{Graph}

abbrev pub Clean : ℕ → List ℕ → Type 0
Clean count bytes = (i : ℕ) → i < count → slice_index bytes i ≤ 1

abbrev pub graph_of : ℕ → (ℕ → List (ℕ × ℕ)) → (ℕ → ℕ → Bool) → Graph
graph_of nodes arcs passes = record { nodes = nodes; arcs = arcs; passes = passes }

abbrev pub accepted : (nodes labels held marks goals n l : ℕ) → Bool
accepted nodes labels held marks goals n l =
    nat_lt n nodes && (nat_lt l labels && (nat_le (nodes * labels) held && (nat_le (nodes * labels) marks && nat_le (nodes * labels) goals)))
