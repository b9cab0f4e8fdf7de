use Rattle.std.proofs.Common.{ℕ, true}
use Rattle.shapes.specs.Leaning.{Leans, Admits}
use Rattle.shapes.specs.Lists.{Member}
use Rattle.leaning.specs.Labels.{schema_in}
use Rattle.leaning.specs.Marking.{Grown, Covered}
use Rattle.leaning.specs.Pairs.{graph_of}
use Rattle.leaning.proofs.search.Search.mark_next.Given as goal

abbrev pub invariant-loop-property : goal.invariant-loop-property
invariant-loop-property g l =
    record {
      grown : Grown (λ h. Leans (schema_in l.tables) (graph_of (g.S.Store.nodes l.store) (g.S.Store.arcs l.store) (λ n t. true)) l.pair.node l.pair.label h.node h.label) l.initial.self l.self;
      made : (p o k : ℕ) → Member (p, o) l.yielded → Admits (schema_in l.tables).sets ((schema_in l.tables).definition l.pair.label) p k → Covered l.self (record { node = o; label = k });
    }
