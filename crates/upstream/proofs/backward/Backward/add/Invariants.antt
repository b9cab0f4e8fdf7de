use Rattle.std.proofs.Common.{◌≡◌, ℕ, ◌⊎◌}
use Rattle.shapes.specs.Lists.{Member}
use Rattle.upstream.specs.Arcs.{Leads, Leading}
use Rattle.upstream.proofs.backward.Backward.add.Given as goal

abbrev pub invariant-loop-object : goal.invariant-loop-object
invariant-loop-object g l =
    record {
      kept : (n o : ℕ) → Leading l.initial.self n o → Leading l.self n o;
      more : (n o : ℕ) → Leading l.self n o → Leading l.initial.self n o ⊎ ((n ≡ l.node) × Leads (g.S.Store.arcs l.store) n o);
      made : (p o : ℕ) → Member (p, o) l.yielded → Leading l.self l.node o;
    }
