-- Lists read from a place on. Assumes nothing.
use Rattle.std.proofs.Common.{◌≡◌, ℕ, suc, ◌+◌, ◌-◌, ◌<◌, ◌≤◌, List, [], ◌∷◌, length, take, drop, Some, None, sym, ap, ◌∙◌, ⊎_elim, arith}
use Rattle.std.specs.List.{slice_get}
use Rattle.std.proofs.lemmas.Bool.{cases_lt}
use Rattle.std.proofs.lemmas.List.{take_all, drop_more, drop_all}
use Rattle.std.proofs.lemmas.Option.{slice_get_within, get_or_from_slice_get, slice_get-get_or}
use Rattle.std.specs.Iterator.{YieldsFirst}
use Rattle.std.specs.Iterator.Runs.{YieldsInOrder}
use Rattle.std.proofs.iter.runs.Sources.{from_front, as_is}
use Rattle.triple.specs.Arcs.{Arc}
use Rattle.triple.specs.Walks.{arcs_left}

pub some_left : (arcs : List Arc) (i : ℕ) (x : Arc) → Some x ≡ slice_get arcs i → drop i arcs ≡ x ∷ drop (i + 1) arcs
some_left arcs i x e = drop_more arcs i x (slice_get_within arcs i x (sym e)) ∙ ap (λ (y : Arc). y ∷ drop (i + 1) arcs) (get_or_from_slice_get arcs i x x (sym e))

some_none : (x : Arc) → None ≡ Some x → ⊥
some_none x e = cc

pub none_left : (arcs : List Arc) (i : ℕ) → None ≡ slice_get arcs i → drop i arcs ≡ []
none_left arcs i e =
    ⊎_elim
    (λ (h : i < length arcs). absurd (some_none _ (e ∙ slice_get-get_or arcs i (0, 0) h)))
    (λ (h : length arcs ≤ i). drop_all i arcs h)
    (cases_lt i (length arcs))

-- what is left up to the place f

pub some_left_to : (arcs : List Arc) (i f : ℕ) (x : Arc) → i < f → Some x ≡ slice_get arcs i → take (f - i) (drop i arcs) ≡ x ∷ take (f - (i + 1)) (drop (i + 1) arcs)
some_left_to arcs i f x l e =
    let one : f - i ≡ suc (f - (i + 1)) = omega arith in
    ap (λ xs. take (f - i) xs) (some_left arcs i x e) ∙ ap (λ k. take k (x ∷ drop (i + 1) arcs)) one

pub none_left_to : (arcs : List Arc) (i f : ℕ) → None ≡ slice_get arcs i → take (f - i) (drop i arcs) ≡ []
none_left_to arcs i f e = ap (λ xs. take (f - i) xs) (none_left arcs i e) ∙ take_all (f - i) [] (omega arith)

pub ended_left : (arcs : List Arc) (i f : ℕ) → f ≤ i → take (f - i) (drop i arcs) ≡ []
ended_left arcs i f l = let none : f - i ≡ 0 = omega arith in ap (λ k. take k (drop i arcs)) none

pub all_left : (arcs : List Arc) (f : ℕ) → f ≡ length arcs → take (f - 0) (drop 0 arcs) ≡ arcs
all_left arcs f e = take_all (f - 0) arcs (omega (arith, e))

-- a walk gives what is left, in order
module _ {W : Type 0} (left : W → List Arc) where
  pub walk_run : YieldsInOrder (YieldsFirst left) left
  walk_run p s = as_is p (left p.from) (from_front (YieldsFirst left) (λ x. x) left (λ s t h. ap length h.0) (λ s x t h. h) p s)

module _ {S : Type 0} (arcs : S → ℕ → List Arc) where
  pub arcs_run : YieldsInOrder (YieldsFirst (arcs_left arcs)) (arcs_left arcs)
  arcs_run = walk_run (arcs_left arcs)
