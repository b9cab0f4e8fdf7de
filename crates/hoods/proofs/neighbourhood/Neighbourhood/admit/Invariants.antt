use Rattle.std.proofs.Common.{◌≡◌, ℕ, ◌<◌, false, ◌&&◌, get_or}
use Rattle.draft.specs.Sets.{in_set}
use Rattle.hoods.specs.Typings.{typed}
use Rattle.hoods.proofs.neighbourhood.Neighbourhood.admit.Given as goal

abbrev pub invariant-loop-j : goal.invariant-loop-j
invariant-loop-j l = (k : ℕ) → k < l.j
    → get_or l.admitted k false ≡ (in_set l.properties (get_or l.property-items k (0, 0)).0 && typed l.labels l.self.typing.now (get_or l.property-items k (0, 0)).1 l.label)
