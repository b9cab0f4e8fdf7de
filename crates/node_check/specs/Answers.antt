-- What the check of a node answers. Assumes nothing.
--     graph nodes arcs passes      the graph of a store and a value test
--     Answered t G table n l       the node n and the label l are there, and n satisfies the definition of l in the tables t, under the typing in the table
use Rattle.std.specs.Prelude.{ℕ, ◌<◌, Bool, List}
use Rattle.shapes.specs.Meaning.{Arcs}
use Rattle.shapes.specs.Typing.{Graph, In, Satisfied}
use Rattle.draft.specs.Tables.{Tables, schema_of}
use Rattle.hoods.specs.Typings.{typed}

abbrev pub graph : ℕ → (ℕ → Arcs) → (ℕ → ℕ → Bool) → Graph
graph nodes arcs passes = record { nodes = nodes; arcs = arcs; passes = passes }

abbrev pub Answered : Tables → Graph → List ℕ → ℕ → ℕ → Type 0
Answered t G table n l =
    let S = schema_of t in
    (n < G.nodes) × (l < S.labels) × Satisfied S G (In (typed S.labels table)) n l
