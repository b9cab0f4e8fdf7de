-- The arcs that a copy holds.
use Rattle.std.proofs.Common.{◌≡◌, ℕ, zero, suc, ◌<◌, List, [], ◌∷◌, length, get_or, refl, arith}
use Rattle.std.proofs.lemmas.List.{length-take-le}
use Rattle.hoods.specs.Arcs.{arcs_of}
use Rattle.hoods.specs.declared.arcs.NodeArcs.{NodeArcs}

pub length_arcs : (a : NodeArcs) → length (arcs_of a) ≡ a.fan.value
length_arcs a = length-take-le a.fan.value a.arcs a.room

-- at a place that is there the default does not count
pub same_default : {A : Type 0} (zs : List A) (i : ℕ) (d e : A) → i < length zs → get_or zs i d ≡ get_or zs i e
same_default [] i d e h = absurd (omega arith)
same_default (z ∷ zs) zero d e h = refl
same_default (z ∷ zs) (suc i) d e h = same_default zs i d e (omega arith)
