-- Walks along a chain of cells, and what a write to one cell leaves. Assumes nothing.
use Rattle.std.proofs.Common.{◌≡◌, ℕ, zero, suc, ◌+◌, ◌-◌, ◌<◌, true, false, ◌||◌, eqb, List, ◌∷◌, length, set, replicate, Some, sym, refl, ap, ◌∙◌, ⊎_elim, sub-one, arith, get_or-set_other}
use Rattle.std.specs.List.{slice_get}
use Rattle.std.proofs.lemmas.Bool.{eq-eqb, eqb-true, or_parts, or_left, or_right, or_cases}
use Rattle.triple.specs.Arcs.{same, has}
use Rattle.triple.proofs.Changes.{clash, same_refl}
use Rattle.chain.specs.declared.cells.Cell.{Cell}
use Rattle.chain.specs.declared.cells.Chain.{Chain}
use Rattle.chain.specs.Links.{cell_at, chain_at, arc_at, chain, on}

pub chain_length : (cells : List Cell) (k c : ℕ) → length (chain cells k c) ≡ k
chain_length cells zero c = refl
chain_length cells (suc k) c = ap suc (chain_length cells k (cell_at cells c).next)

pub chain_step : (cells : List Cell) (k c : ℕ) → 0 < k → chain cells k c ≡ arc_at cells c ∷ chain cells (k - 1) (cell_at cells c).next
chain_step cells zero c l = let z : ⊥ = omega arith in elim z [ ]
chain_step cells (suc k) c l = rw sub-one refl

pub on_step : (cells : List Cell) (k c f : ℕ) → 0 < k → on cells k c f ≡ (eqb c f || on cells (k - 1) (cell_at cells c).next f)
on_step cells zero c f l = let z : ⊥ = omega arith in elim z [ ]
on_step cells (suc k) c f l = rw sub-one refl

pub on_first : (cells : List Cell) (k c : ℕ) → 0 < k → on cells k c c ≡ true
on_first cells k c l = rw (on_step cells k c c l, eq-eqb c c refl) refl

pub on_rest : (cells : List Cell) (k c f : ℕ) → 0 < k → on cells (k - 1) (cell_at cells c).next f ≡ true → on cells k c f ≡ true
on_rest cells k c f l h = on_step cells k c f l ∙ or_right _ _ h

-- the arcs of one cell
pub same_cell : (cells : List Cell) (c f : ℕ) → c ≡ f → same (arc_at cells c) (cell_at cells f).property (cell_at cells f).object ≡ true
same_cell cells c f e = ap (λ z. same (arc_at cells z) (cell_at cells f).property (cell_at cells f).object) e ∙ same_refl (arc_at cells f)

-- the arc of a cell on the chain is among its arcs
pub on_has : (cells : List Cell) (k c f : ℕ) → on cells k c f ≡ true → has (cell_at cells f).property (cell_at cells f).object (chain cells k c) ≡ true
on_has cells zero c f h = clash (sym h)
on_has cells (suc k) c f h =
    ⊎_elim
    (λ (e : eqb c f ≡ true). or_left (same (arc_at cells c) (cell_at cells f).property (cell_at cells f).object) _ (same_cell cells c f (eqb-true c f e)))
    (λ (e : on cells k (cell_at cells c).next f ≡ true). or_right _ _ (on_has cells k (cell_at cells c).next f e))
    (or_cases _ _ h)

-- after is before but for what stands at f
abbrev pub Agree : ℕ → List Cell → List Cell → Type 0
Agree f before after = (j : ℕ) → (j ≡ f → ⊥) → cell_at after j ≡ cell_at before j

pub set_agrees : (f : ℕ) (cells : List Cell) (v : Cell) → Agree f cells (set cells f v)
set_agrees f cells v j d = get_or-set_other cells f j v _ d

off_first : (c f : ℕ) → eqb c f ≡ false → c ≡ f → ⊥
off_first c f h e = clash (sym (eq-eqb c f e) ∙ h)

pub chain_frame : (f k c : ℕ) (before after : List Cell) → Agree f before after → on before k c f ≡ false → chain after k c ≡ chain before k c
chain_frame f zero c before after agree h = refl
chain_frame f (suc k) c before after agree h =
    let parts = or_parts _ _ h in
    let here = agree c (off_first c f parts.0) in
    rw here (ap (λ r. arc_at before c ∷ r) (chain_frame f k (cell_at before c).next before after agree parts.1))

pub on_frame : (f k c g : ℕ) (before after : List Cell) → Agree f before after → on before k c f ≡ false → on after k c g ≡ on before k c g
on_frame f zero c g before after agree h = refl
on_frame f (suc k) c g before after agree h =
    let parts = or_parts _ _ h in
    let here = agree c (off_first c f parts.0) in
    rw here (ap (λ b. eqb c g || b) (on_frame f k (cell_at before c).next g before after agree parts.1))

-- where each cell keeps its next one, the same cells are on a chain
pub on_linked : (before after : List Cell) → ((j : ℕ) → (cell_at after j).next ≡ (cell_at before j).next) → (k c g : ℕ) → on after k c g ≡ on before k c g
on_linked before after linked zero c g = refl
on_linked before after linked (suc k) c g = rw (linked c) (ap (λ b. eqb c g || b) (on_linked before after linked k (cell_at before c).next g))

-- one turn of a walk, at the numbers that the code counts with
pub sub_more : (k i : ℕ) → k - (i + 1) ≡ (k - i) - 1
sub_more k i = omega arith

pub nth_first : (cells : List Cell) (k c : ℕ) → 0 < k → slice_get (chain cells k c) 0 ≡ Some (arc_at cells c)
nth_first cells k c l = rw (chain_step cells k c l) refl

pub nth_rest : (cells : List Cell) (k c j : ℕ) → 0 < k → 0 < j → slice_get (chain cells (k - 1) (cell_at cells c).next) (j - 1) ≡ slice_get (chain cells k c) j
nth_rest cells k c zero l m = let z : ⊥ = omega arith in elim z [ ]
nth_rest cells k c (suc j) l m = rw (chain_step cells k c l) (simp sub-one refl)

pub has_first : (cells : List Cell) (k c p o : ℕ) → 0 < k → same (arc_at cells c) p o ≡ false → has p o (chain cells (k - 1) (cell_at cells c).next) ≡ has p o (chain cells k c)
has_first cells k c p o l e = rw (chain_step cells k c l, e) refl

-- a store with no arc

pub bare_at : (bare : Chain) (k n : ℕ) → bare.fan ≡ 0 → (chain_at (replicate k bare) n).fan ≡ 0
bare_at bare zero n e = refl
bare_at bare (suc k) zero e = e
bare_at bare (suc k) (suc n) e = bare_at bare k n e
