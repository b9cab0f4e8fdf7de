use Rattle.std.proofs.Common.{ℕ, Bool}
use Rattle.leaning.specs.Labels.{schema_in}
use Rattle.leaning.specs.Marking.{Frame, Searching, work}
use Rattle.leaning.specs.Pairs.{graph_of}
use Rattle.leaning.proofs.search.reach.Given as goal

abbrev pub invariant-loop-pair : goal.invariant-loop-pair
invariant-loop-pair g l =
    record {
      frame : Frame l.initial.search l.search;
      searching : (passes : ℕ → ℕ → Bool) → Searching (schema_in l.tables) (graph_of (g.S.Store.nodes l.store) (g.S.Store.arcs l.store) passes) l.fn.goal.node l.fn.goal.label l.search;
    }

abbrev pub decreases-loop-pair : goal.decreases-loop-pair
decreases-loop-pair g l = work l.search
