use Rattle.std.proofs.Common.{ℕ, ◌<◌}
use Rattle.upstream.specs.Arcs.{Leads, Leading}
use Rattle.upstream.proofs.backward.Backward.of.Given as goal

abbrev pub invariant-loop-node : goal.invariant-loop-node
invariant-loop-node g l =
    record {
      only : (n o : ℕ) → Leading l.backward n o → Leads (g.S.Store.arcs l.store) n o;
      made : (n o : ℕ) → n < l.node → Leads (g.S.Store.arcs l.store) n o → Leading l.backward n o;
    }
