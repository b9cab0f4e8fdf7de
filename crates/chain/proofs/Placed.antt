-- Which cells are on which chain when a chain gains its head, or loses it. Assumes nothing.
use Rattle.std.proofs.Common.{◌≡◌, ℕ, zero, suc, ◌+◌, ◌-◌, ◌<◌, Bool, true, false, not, ◌&&◌, ◌||◌, eqb, ◌⊎◌, List, ◌∷◌, length, set, sym, refl, ap, ◌∙◌, subst, inl, inr, ⊎_elim, add-one, arith, get_or-set_other, get_or-set_same}
use Rattle.std.proofs.lemmas.Bool.{eq-eqb, eqb-true, ne_eqb, and_parts, and_from, and_left, and_right, or_parts, or_cases, or_right, or_from, not_from_false, not_from_true, cases_Bool, cases_eq}
use Rattle.triple.specs.Arcs.{Arc, same, has, distinct}
use Rattle.triple.proofs.Changes.{clash, same_true}
use Rattle.triple.proofs.Totals.{at_each}
use Rattle.chain.specs.declared.cells.Cell.{Cell}
use Rattle.chain.specs.declared.cells.Chain.{Chain}
use Rattle.chain.specs.Links.{cell_at, chain_at, arc_at, chain, on, arcs_of, on_chain}
use Rattle.chain.proofs.Chains.{chain_frame, on_step, on_frame, on_linked, on_has, same_cell, set_agrees}
use Rattle.chain.proofs.Edits.{distinct_parts, replaced, without}

-- which cell is on the chain of which node
abbrev pub Placed : Type 0
Placed = ℕ → ℕ → Bool

-- the chain of s gains the cell f, and no other chain changes
abbrev pub Gains : Placed → ℕ → ℕ → Placed → Type 0
Gains before s f after = (n c : ℕ) → after n c ≡ ((eqb n s && eqb f c) || before n c)

abbrev pub Cut : Placed → Type 0
Cut placed = (n m c : ℕ) → ((placed n c && placed m c) && not (eqb n m)) ≡ false

pub one_chain : (placed : Placed) → Cut placed → (n m c : ℕ) → placed n c ≡ true → placed m c ≡ true → n ≡ m
one_chain placed cut n m c h k =
    ⊎_elim (λ (e : n ≡ m). e)
    (λ (d : n ≡ m → ⊥). clash (sym (and_from _ _ (and_from _ _ h k) (not_from_false _ (ne_eqb n m d))) ∙ cut n m c))
    (cases_eq n m)

pub cut_from : (placed : Placed) → ((n m c : ℕ) → placed n c ≡ true → placed m c ≡ true → n ≡ m) → Cut placed
cut_from placed one n m c =
    ⊎_elim
    (λ (h : (placed n c && placed m c) ≡ true). let parts = and_parts (placed n c) (placed m c) h in
    and_right _ _ (not_from_true _ (eq-eqb n m (one n m c parts.0 parts.1))))
    (λ (h : (placed n c && placed m c) ≡ false). and_left _ _ h)
    (cases_Bool (placed n c && placed m c))

module _ (before : Placed) (s f : ℕ) (after : Placed) (gains : Gains before s f after) where
  gained : (n c : ℕ) → after n c ≡ true → ((n ≡ s) × (f ≡ c)) ⊎ (before n c ≡ true)
  gained n c h =
      ⊎_elim
      (λ (e : (eqb n s && eqb f c) ≡ true). let parts = and_parts (eqb n s) (eqb f c) e in inl (eqb-true n s parts.0, eqb-true f c parts.1))
      (λ (e : before n c ≡ true). inr e)
      (or_cases _ _ (sym (gains n c) ∙ h))

  pub kept : (n c : ℕ) → before n c ≡ true → after n c ≡ true
  kept n c h = gains n c ∙ or_right _ _ h

  pub still_off : (n c : ℕ) → after n c ≡ false → before n c ≡ false
  still_off n c h = (or_parts _ _ (sym (gains n c) ∙ h)).1

  pub gains_below : (limit : ℕ) → f < limit → ((n c : ℕ) → before n c ≡ true → c < limit) → (n c : ℕ) → after n c ≡ true → c < limit
  gains_below limit l below n c h =
      ⊎_elim (λ (e : (n ≡ s) × (f ≡ c)). subst (λ x. x < limit) e.1 l) (λ (e : before n c ≡ true). below n c e) (gained n c h)

  pub gains_cut : ((n : ℕ) → before n f ≡ false) → Cut before → Cut after
  gains_cut unused cut =
      let never : (n c : ℕ) → f ≡ c → before n c ≡ true → ⊥ = λ n c e h. clash (sym h ∙ subst (λ x. before n x ≡ false) e (unused n)) in
      cut_from after (λ n m c h k.
      ⊎_elim
      (λ (e : (n ≡ s) × (f ≡ c)). ⊎_elim (λ (g : (m ≡ s) × (f ≡ c)). e.0 ∙ sym g.0) (λ (g : before m c ≡ true). absurd (never m c e.1 g)) (gained m c k))
      (λ (e : before n c ≡ true). ⊎_elim (λ (g : (m ≡ s) × (f ≡ c)). absurd (never n c g.1 e)) (λ (g : before m c ≡ true). one_chain before cut n m c e g) (gained m c k))
      (gained n c h))

  pub gains_off : (n c : ℕ) → (f ≡ c → ⊥) → before n c ≡ false → after n c ≡ false
  gains_off n c d h = gains n c ∙ or_from _ _ (and_right _ _ (ne_eqb f c d)) h

  pub loses_cut : Cut after → Cut before
  loses_cut cut = cut_from before (λ n m c h k. one_chain after cut n m c (kept n c h) (kept m c k))

-- a chain without repeats does not come back to its first cell
pub not_again : (cells : List Cell) (k c : ℕ) → distinct (chain cells (suc k) c) ≡ true → on cells k (cell_at cells c).next c ≡ false
not_again cells k c d =
    ⊎_elim
    (λ (h : on cells k (cell_at cells c).next c ≡ true). clash (sym (on_has cells k (cell_at cells c).next c h) ∙ (distinct_parts (arc_at cells c) (chain cells k (cell_at cells c).next) d).0))
    (λ (h : on cells k (cell_at cells c).next c ≡ false). h)
    (cases_Bool (on cells k (cell_at cells c).next c))

-- nor does the arc of its first cell stand in a later one
later_differs : (cells : List Cell) (k c f : ℕ) → distinct (chain cells (suc k) c) ≡ true → on cells k (cell_at cells c).next f ≡ true
    → same (arc_at cells c) (cell_at cells f).property (cell_at cells f).object ≡ false
later_differs cells k c f d later =
    let here : Arc = arc_at cells c in
    let rest = chain cells k (cell_at cells c).next in
    ⊎_elim
    (λ (q : same here (cell_at cells f).property (cell_at cells f).object ≡ true).
    clash (sym (on_has cells k (cell_at cells c).next f later) ∙ subst (λ (a : Arc). has a.0 a.1 rest ≡ false) (same_true here (cell_at cells f).property (cell_at cells f).object q) (distinct_parts here rest d).0))
    (λ (q : same here (cell_at cells f).property (cell_at cells f).object ≡ false). q)
    (cases_Bool (same here (cell_at cells f).property (cell_at cells f).object))

-- the cells with another arc in the cell f
abbrev pub rewritten : List Cell → (f p o : ℕ) → List Cell
rewritten cells f p o = set cells f (record { property = p; object = o; next = (cell_at cells f).next })

module _ (cells : List Cell) (f p o : ℕ) where
  -- what a write to the first cell of a chain without repeats leaves of the rest
  rest_kept : (k c : ℕ) → c ≡ f → distinct (chain cells (suc k) c) ≡ true → chain (rewritten cells f p o) k (cell_at cells c).next ≡ chain cells k (cell_at cells c).next
  rest_kept k c e d =
      let off : on cells k (cell_at cells c).next f ≡ false = subst (λ z. on cells k (cell_at cells c).next z ≡ false) e (not_again cells k c d) in
      chain_frame f k (cell_at cells c).next cells (rewritten cells f p o) (set_agrees f cells _) off

  -- a write to a cell of a chain without repeats replaces that cell's arc
  chain_replaced : (k c : ℕ) → f < length cells → on cells k c f ≡ true → distinct (chain cells k c) ≡ true
      → chain (rewritten cells f p o) k c ≡ replaced (cell_at cells f).property (cell_at cells f).object (p, o) (chain cells k c)
  chain_replaced zero c i h d = clash (sym h)
  chain_replaced (suc k) c i h d =
      ⊎_elim
      (λ (e : c ≡ f).
      let new : cell_at (rewritten cells f p o) c ≡ record { property = p; object = o; next = (cell_at cells c).next } =
      ap (cell_at (rewritten cells f p o)) e ∙ get_or-set_same cells f (record { property = p; object = o; next = (cell_at cells f).next }) _ i ∙ ap (λ z. record { property = p; object = o; next = (cell_at cells z).next }) (sym e) in
      rw (same_cell cells c f e, new) (ap (λ r. (p, o) ∷ r) (rest_kept k c e d)))
      (λ (n : c ≡ f → ⊥).
      let later : on cells k (cell_at cells c).next f ≡ true = rw (ne_eqb c f n) at h in
      let rest : distinct (chain cells k (cell_at cells c).next) ≡ true = (distinct_parts (arc_at cells c) (chain cells k (cell_at cells c).next) d).1 in
      rw (later_differs cells k c f d later, set_agrees f cells (record { property = p; object = o; next = (cell_at cells f).next }) c n)
      (ap (λ r. arc_at cells c ∷ r) (chain_replaced k (cell_at cells c).next i later rest)))
      (cases_eq c f)

  -- each cell keeps its next one
  links_kept : f < length cells → (j : ℕ) → (cell_at (rewritten cells f p o) j).next ≡ (cell_at cells j).next
  links_kept i j =
      let new : Cell = record { property = p; object = o; next = (cell_at cells f).next } in
      at_each (λ j. (cell_at (rewritten cells f p o) j).next ≡ (cell_at cells j).next) f
      (ap (λ (cell : Cell). cell.next) (get_or-set_same cells f new _ i))
      (λ j d. ap (λ (cell : Cell). cell.next) (set_agrees f cells new j d)) j

-- the rest of a chain, once its first cell's arc was written to the cell f
rest_taken : (cells : List Cell) (k c f : ℕ) → f < length cells → on cells (suc k) c f ≡ true → distinct (chain cells (suc k) c) ≡ true
    → chain (rewritten cells f (cell_at cells c).property (cell_at cells c).object) k (cell_at cells c).next ≡ without (cell_at cells f).property (cell_at cells f).object (chain cells (suc k) c)
rest_taken cells k c f i h d =
    ⊎_elim
    (λ (e : c ≡ f). rw (same_cell cells c f e) (rest_kept cells f (cell_at cells c).property (cell_at cells c).object k c e d))
    (λ (n : c ≡ f → ⊥).
    let later : on cells k (cell_at cells c).next f ≡ true = rw (ne_eqb c f n) at h in
    let rest : distinct (chain cells k (cell_at cells c).next) ≡ true = (distinct_parts (arc_at cells c) (chain cells k (cell_at cells c).next) d).1 in
    rw (later_differs cells k c f d later) (chain_replaced cells f (cell_at cells c).property (cell_at cells c).object k (cell_at cells c).next i later rest))
    (cases_eq c f)

-- a put: the cell f becomes the head of s and holds (p, o)

module _ (chains : List Chain) (cells : List Cell) (s f p o : ℕ) where
  abbrev pub put_chains : List Chain
  put_chains = set chains s (record { head = f; fan = (chain_at chains s).fan + 1 })

  abbrev pub put_cells : List Cell
  put_cells = set cells f (record { property = p; object = o; next = (chain_at chains s).head })

module _ (chains : List Chain) (cells : List Cell) (s f p o : ℕ) (i : s < length chains) (l : f < length cells) where
  new_chain : chain_at (put_chains chains cells s f p o) s ≡ record { head = f; fan = (chain_at chains s).fan + 1 }
  new_chain = get_or-set_same chains s _ _ i

  new_cell : cell_at (put_cells chains cells s f p o) f ≡ record { property = p; object = o; next = (chain_at chains s).head }
  new_cell = get_or-set_same cells f _ _ l

  other_chain : (n : ℕ) → (n ≡ s → ⊥) → chain_at (put_chains chains cells s f p o) n ≡ chain_at chains n
  other_chain n d = get_or-set_other chains s n _ _ d

  pub put_here : on_chain chains cells s f ≡ false → arcs_of (put_chains chains cells s f p o) (put_cells chains cells s f p o) s ≡ (p, o) ∷ arcs_of chains cells s
  put_here off =
      rw (new_chain, add-one, new_cell)
      (ap (λ r. (p, o) ∷ r) (chain_frame f (chain_at chains s).fan (chain_at chains s).head cells _ (set_agrees f cells _) off))

  pub put_others : (n : ℕ) → (n ≡ s → ⊥) → on_chain chains cells n f ≡ false → arcs_of (put_chains chains cells s f p o) (put_cells chains cells s f p o) n ≡ arcs_of chains cells n
  put_others n d off = rw (other_chain n d) (chain_frame f (chain_at chains n).fan (chain_at chains n).head cells _ (set_agrees f cells _) off)

  pub put_gains : ((n : ℕ) → on_chain chains cells n f ≡ false) → Gains (on_chain chains cells) s f (on_chain (put_chains chains cells s f p o) (put_cells chains cells s f p o))
  put_gains off n c =
      at_each (λ m. on_chain (put_chains chains cells s f p o) (put_cells chains cells s f p o) m c ≡ ((eqb m s && eqb f c) || on_chain chains cells m c)) s
      (rw (new_chain, add-one, new_cell, eq-eqb s s refl)
      (ap (λ b. eqb f c || b) (on_frame f (chain_at chains s).fan (chain_at chains s).head c cells _ (set_agrees f cells _) (off s))))
      (λ m d. rw (other_chain m d, ne_eqb m s d) (on_frame f (chain_at chains m).fan (chain_at chains m).head c cells _ (set_agrees f cells _) (off m))) n

-- a take: the arc of the head of s moves to the cell f of its chain, and the head leaves the chain

module _ (chains : List Chain) (cells : List Cell) (s f : ℕ) where
  abbrev pub head_cell : Cell
  head_cell = cell_at cells (chain_at chains s).head

  abbrev pub take_chains : List Chain
  take_chains = set chains s (record { head = head_cell.next; fan = (chain_at chains s).fan - 1 })

  abbrev pub take_cells : List Cell
  take_cells = rewritten cells f head_cell.property head_cell.object

module _ (chains : List Chain) (cells : List Cell) (s f : ℕ) (i : s < length chains) (l : f < length cells) (some : 0 < (chain_at chains s).fan) where
  less_chain : chain_at (take_chains chains cells s f) s ≡ record { head = (head_cell chains cells s f).next; fan = (chain_at chains s).fan - 1 }
  less_chain = get_or-set_same chains s _ _ i

  same_chain : (n : ℕ) → (n ≡ s → ⊥) → chain_at (take_chains chains cells s f) n ≡ chain_at chains n
  same_chain n d = get_or-set_other chains s n _ _ d

  linked : (k c g : ℕ) → on (take_cells chains cells s f) k c g ≡ on cells k c g
  linked = on_linked cells (take_cells chains cells s f) (links_kept cells f _ _ l)

  pub take_others : (n : ℕ) → (n ≡ s → ⊥) → on_chain chains cells n f ≡ false → arcs_of (take_chains chains cells s f) (take_cells chains cells s f) n ≡ arcs_of chains cells n
  take_others n d off = rw (same_chain n d) (chain_frame f (chain_at chains n).fan (chain_at chains n).head cells _ (set_agrees f cells _) off)

  pub take_gains : Gains (on_chain (take_chains chains cells s f) (take_cells chains cells s f)) s (chain_at chains s).head (on_chain chains cells)
  take_gains n c =
      at_each (λ m. on_chain chains cells m c ≡ ((eqb m s && eqb (chain_at chains s).head c) || on_chain (take_chains chains cells s f) (take_cells chains cells s f) m c)) s
      (rw (less_chain, eq-eqb s s refl) (on_step cells (chain_at chains s).fan (chain_at chains s).head c some ∙ ap (λ b. eqb (chain_at chains s).head c || b) (sym (linked _ _ c))))
      (λ m d. rw (same_chain m d, ne_eqb m s d) (sym (linked _ _ c))) n

  -- the fan of s, as one more than a number
  one_more : (chain_at chains s).fan ≡ suc ((chain_at chains s).fan - 1)
  one_more = omega arith

  unrepeated : distinct (arcs_of chains cells s) ≡ true → distinct (chain cells (suc ((chain_at chains s).fan - 1)) (chain_at chains s).head) ≡ true
  unrepeated apart = subst (λ k. distinct (chain cells k (chain_at chains s).head) ≡ true) one_more apart

  pub take_freed : distinct (arcs_of chains cells s) ≡ true → on_chain (take_chains chains cells s f) (take_cells chains cells s f) s (chain_at chains s).head ≡ false
  take_freed apart = rw less_chain (linked ((chain_at chains s).fan - 1) (head_cell chains cells s f).next (chain_at chains s).head ∙ not_again cells ((chain_at chains s).fan - 1) (chain_at chains s).head (unrepeated apart))

  pub take_here : distinct (arcs_of chains cells s) ≡ true → on_chain chains cells s f ≡ true
      → arcs_of (take_chains chains cells s f) (take_cells chains cells s f) s ≡ without (cell_at cells f).property (cell_at cells f).object (arcs_of chains cells s)
  take_here apart h =
      rw less_chain
      (rest_taken cells ((chain_at chains s).fan - 1) (chain_at chains s).head f l (subst (λ k. on cells k (chain_at chains s).head f ≡ true) one_more h) (unrepeated apart)
      ∙ ap (λ k. without (cell_at cells f).property (cell_at cells f).object (chain cells k (chain_at chains s).head)) (sym one_more))
