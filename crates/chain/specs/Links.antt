-- Chains of cells. Assumes nothing.
--     cell_at cells c, chain_at chains n   the cell c, and the chain of the node n
--     arc_at cells c                       the arc that the cell c holds
--     chain cells k c                      the arcs of k cells, from the cell c on
--     on cells k c f                       the cell f is among them
--     arcs_of, on_chain                    the same for the chain of a node, which starts at its head and is as long as its fan
--     shared chains cells n m c            the cell c is on the chains of two nodes
use Rattle.std.specs.Prelude.{ℕ, zero, suc, Bool, false, not, ◌&&◌, ◌||◌, List, [], ◌∷◌, ◌==◌, slice_index_or}
use Rattle.triple.specs.Arcs.{Arc}
use Rattle.chain.specs.declared.cells.Cell.{Cell}
use Rattle.chain.specs.declared.cells.Chain.{Chain}

abbrev pub cell_at : List Cell → ℕ → Cell
cell_at cells c = slice_index_or cells c (record { property = 0; object = 0; next = 0 })

abbrev pub chain_at : List Chain → ℕ → Chain
chain_at chains n = slice_index_or chains n (record { head = 0; fan = 0 })

abbrev pub arc_at : List Cell → ℕ → Arc
arc_at cells c = ((cell_at cells c).property, (cell_at cells c).object)

abbrev pub chain : List Cell → (k c : ℕ) → List Arc
chain cells zero c = []
chain cells (suc k) c = arc_at cells c ∷ chain cells k (cell_at cells c).next

abbrev pub on : List Cell → (k c f : ℕ) → Bool
on cells zero c f = false
on cells (suc k) c f = c == f || on cells k (cell_at cells c).next f

abbrev pub arcs_of : List Chain → List Cell → ℕ → List Arc
arcs_of chains cells n = chain cells (chain_at chains n).fan (chain_at chains n).head

abbrev pub on_chain : List Chain → List Cell → ℕ → ℕ → Bool
on_chain chains cells n f = on cells (chain_at chains n).fan (chain_at chains n).head f

abbrev pub shared : List Chain → List Cell → ℕ → ℕ → ℕ → Bool
shared chains cells n m c = (on_chain chains cells n c && on_chain chains cells m c) && not (n == m)
