use Rattle.std.proofs.Common.{◌≡◌, ℕ, ◌<◌, true}
use Rattle.labels.specs.Members.{member}
use Rattle.leaning.specs.Marking.{Grown, Covered}
use Rattle.leaning.proofs.search.Search.mark_labels.Given as goal

abbrev pub invariant-loop-label : goal.invariant-loop-label
invariant-loop-label l =
    record {
      grown : Grown (λ g. (g.node ≡ l.object) × (member l.labels g.label ≡ true)) l.initial.self l.self;
      made : (k : ℕ) → k < l.label → member l.labels k ≡ true → Covered l.self (record { node = l.object; label = k });
    }
