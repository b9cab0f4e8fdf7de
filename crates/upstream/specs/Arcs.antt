-- The arcs of a store backwards. Assumes nothing.
--     Leads arcs n o        n has an arc to o
--     sources_of b o        the nodes that have an arc to o, as b has them
--     Leading b n o         n is one of them
--     Added arcs n b b'     the arcs of n were added to b
use Rattle.std.specs.Prelude.{◌≡◌, ℕ, ◌⊎◌, List, [], slice_index_or}
use Rattle.shapes.specs.Lists.{Member}
use Rattle.upstream.specs.Nodes.{Has}
use Rattle.upstream.specs.declared.backward.Backward.{Backward}
use Rattle.upstream.specs.declared.node_set.NodeSet.{NodeSet}

abbrev pub Leads : (ℕ → List (ℕ × ℕ)) → ℕ → ℕ → Type 0
Leads arcs n o = (p : ℕ) × Member (p, o) (arcs n)

abbrev pub sources_of : Backward → ℕ → NodeSet
sources_of b o = slice_index_or b.sources o (record { words = [] })

abbrev pub Leading : Backward → ℕ → ℕ → Type 0
Leading b n o = Has (sources_of b o) n

pub record Added (arcs : ℕ → List (ℕ × ℕ)) (node : ℕ) (before after : Backward) : Type 0 where
  pub kept : (n o : ℕ) → Leading before n o → Leading after n o
  pub more : (n o : ℕ) → Leading after n o → Leading before n o ⊎ ((n ≡ node) × Leads arcs n o)
  pub made : (o : ℕ) → Leads arcs node o → Leading after node o
