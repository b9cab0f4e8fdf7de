-- Arcs that lead to nodes. Assumes nothing.
use Rattle.std.proofs.Common.{◌≡◌, ℕ, zero, suc, ◌<◌, true, List, [], ◌∷◌, Some, arith}
use Rattle.std.proofs.lemmas.Bool.{and_parts, ltb-true}
use Rattle.std.specs.List.{slice_get}
use Rattle.triple.specs.Arcs.{Arc, inside}

-- the arc at a place leads to a node
pub inside_nth : (nodes : ℕ) (arcs : List Arc) (i p o : ℕ) → inside nodes arcs ≡ true → Some (p, o) ≡ slice_get arcs i → o < nodes
inside_nth nodes [] i p o h e = let z : ◌≡◌ {A = ℕ} 0 1 = cc in absurd (omega arith)
inside_nth nodes (a ∷ arcs) zero p o h e =
    let x : a.1 ≡ o = cc in
    omega (arith, ltb-true a.1 nodes (and_parts _ _ (and_parts _ _ h).0).1)
inside_nth nodes (a ∷ arcs) (suc i) p o h e = inside_nth nodes arcs i p o (and_parts _ _ h).1 e
