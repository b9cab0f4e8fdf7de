-- Walks over the arcs of a node, where `left` is what is left of one. Assumes nothing.
use Rattle.std.proofs.Common.{◌≡◌, ℕ, List, length, Some, None, refl, sym, ap, ◌∙◌}
use Rattle.std.proofs.lemmas.Option.{slice_get-get_or}
use Rattle.std.proofs.lemmas.List.{map-id}
use Rattle.std.proofs.lemmas.Iterator.{YieldsList}
use Rattle.std.proofs.lemmas.Iterator.Consumers.{YieldsList-from_first, YieldsList-turn, YieldsList-end}
use Rattle.std.specs.Iterator.{Yields, YieldsFirst}
use Rattle.std.specs.List.{slice_get}
use Rattle.triple.specs.Arcs.{Arc}

-- a walk gives the next arc, until it has given all, where `left` is what is left of it
module _ {W : Type 0} (left : W → List Arc) (zs : List Arc) (begun s t u : W) (xs : List Arc) (all : left begun ≡ zs) (same : s ≡ begun) (led : Yields (YieldsFirst left) s xs t) where
  abbrev Walk : Type 0
  Walk = YieldsList (YieldsFirst left) (λ x. x) s zs

  pub next_arc : (x : Arc) → YieldsFirst left t (Some x) u → Some x ≡ slice_get zs (length xs)
  next_arc x step =
      let walk : Walk = YieldsList-from_first (λ x. x) left zs (ap left same ∙ all) in
      let w = YieldsList-turn walk xs t led (Some x) u x refl step in
      sym (slice_get-get_or zs (length xs) x w.0 ∙ ap Some (sym w.1))

  pub all_arcs : YieldsFirst left t None u → xs ≡ zs
  all_arcs step =
      let walk : Walk = YieldsList-from_first (λ x. x) left zs (ap left same ∙ all) in
      sym (map-id xs) ∙ (YieldsList-end walk xs t led None u refl step).0
