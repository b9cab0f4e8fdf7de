-- Walks over the arcs of a node. Assumes nothing.
--     arcs_left arcs it        what is left of the arcs of the node, where `arcs` gives the arcs of each node of a store
--     counted_left arcs it     the same, of a walk that ends by the number of arcs that it was told
use Rattle.std.specs.Prelude.{ℕ, ◌-◌, List, take, drop}
use Rattle.triple.specs.Arcs.{Arc}
use Rattle.triple.specs.declared.arcs.Arcs.{Arcs}
use Rattle.triple.specs.declared.counted_arcs.CountedArcs.{CountedArcs}

abbrev pub arcs_left : {S : Type 0} → (S → ℕ → List Arc) → Arcs S → List Arc
arcs_left arcs it = drop it.place (arcs it.store.now it.node)

abbrev pub counted_left : {S : Type 0} → (S → ℕ → List Arc) → CountedArcs S → List Arc
counted_left arcs it = take (it.fan - it.place) (drop it.place (arcs it.store.now it.node))
