-- What holds of the memory of a chain store, and that a put and a take keep it. Assumes nothing.
use Rattle.std.proofs.Common.{◌≡◌, ℕ, zero, suc, ◌+◌, ◌-◌, ◌<◌, ◌≤◌, Bool, true, false, ◌≢◌, List, [], ◌∷◌, ◌++◌, length, get_or, is_some, Some, None, Option, sym, refl, ap, ◌∙◌, subst, ⊎_elim, arith, MatchOption, get_or-set_other, get_or-set_same}
use Rattle.std.proofs.lemmas.Bool.{cases_eq, cases_Bool}
use Rattle.std.proofs.lemmas.List.{length-append, get_or_push, get_or_append_left}
use Rattle.triple.specs.Arcs.{Arc, has, distinct, inside}
use Rattle.triple.specs.Stores.{Lists, total, Added, Removed}
use Rattle.triple.proofs.Changes.{clash, added, removed, each_after}
use Rattle.triple.proofs.Totals.{at_each, total_more}
use Rattle.chain.specs.declared.cells.Cell.{Cell}
use Rattle.chain.specs.declared.cells.Chain.{Chain}
use Rattle.chain.specs.declared.memory.ChainStore.{ChainStore}
use Rattle.chain.specs.Links.{cell_at, chain_at, arc_at, on, arcs_of, on_chain, shared}
use Rattle.chain.proofs.Chains.{on_first, on_has}
use Rattle.chain.proofs.Edits.{without, has_without, distinct_front, inside_front, distinct_without, inside_without, length_without}
use Rattle.chain.proofs.Placed.{Gains, one_chain, kept, still_off, gains_below, gains_cut, gains_off, loses_cut, put_chains, put_cells, put_here, put_others, put_gains, take_chains, take_cells, take_here, take_others, take_gains, take_freed}

-- the facts of the struct's ghost fields
pub record Sound (nodes : ℕ) (chains : List Chain) (cells : List Cell) (free : List ℕ) : Type 0 where
  pub small : nodes ≤ 256
  pub counted : length free + total nodes (arcs_of chains cells) ≡ 512
  pub few : (n : ℕ) → (chain_at chains n).fan ≤ 12
  pub past : (n : ℕ) → nodes ≤ n → (chain_at chains n).fan ≡ 0
  pub apart : (n : ℕ) → distinct (arcs_of chains cells n) ≡ true
  pub within : (n : ℕ) → inside nodes (arcs_of chains cells n) ≡ true
  pub linked : (n c : ℕ) → on_chain chains cells n c ≡ true → c < 512
  pub own : (n m c : ℕ) → shared chains cells n m c ≡ false
  pub spare : (i : ℕ) → i < length free → get_or free i 0 < 512
  pub unused : (i n : ℕ) → i < length free → on_chain chains cells n (get_or free i 0) ≡ false
  pub unlike : (i j : ℕ) → (i < length free) × (j < length free) × (get_or free i 0 ≡ get_or free j 0) → i ≡ j

pub sound_of : (m : ChainStore) → Sound m.nodes m.chains m.cells m.free.items
sound_of m = record { small = m.small; counted = m.counted; few = m.few; past = m.past; apart = m.apart; within = m.within; linked = m.linked; own = m.own; spare = m.spare; unused = m.unused; unlike = m.unlike }

-- the arc that a cell of a chain holds is one of its arcs
pub cell_has : (chains : List Chain) (cells : List Cell) (s f p o : ℕ) → on_chain chains cells s f ≡ true → arc_at cells f ≡ (p, o) → has p o (arcs_of chains cells s) ≡ true
cell_has chains cells s f p o at_cell holds =
    subst (λ (a : Arc). has a.0 a.1 (arcs_of chains cells s) ≡ true) holds (on_has cells (chain_at chains s).fan (chain_at chains s).head f at_cell)

-- a list with one more number at its end
module _ (free : List ℕ) (x : ℕ) where
  pub one_longer : length (free ++ x ∷ []) ≡ length free + 1
  one_longer = length-append free (x ∷ [])

  before_end : (i : ℕ) → i < length free → get_or (free ++ x ∷ []) i 0 ≡ get_or free i 0
  before_end i h = get_or_append_left free (x ∷ []) 0 i h

  at_end : get_or (free ++ x ∷ []) (length free) 0 ≡ x
  at_end = get_or_push free x 0 (length free) refl

  each_longer : (P : ℕ → ℕ → Type 0) → P (length free) x → ((i : ℕ) → i < length free → P i (get_or free i 0)) → (i : ℕ) → i < length (free ++ x ∷ []) → P i (get_or (free ++ x ∷ []) i 0)
  each_longer P here below i h =
      ⊎_elim
      (λ (e : i ≡ length free). subst (λ j. P j (get_or (free ++ x ∷ []) j 0)) (sym e) (subst (P (length free)) (sym at_end) here))
      (λ (d : i ≡ length free → ⊥). let l : i < length free = omega (arith, one_longer) in subst (P i) (sym (before_end i l)) (below i l))
      (cases_eq i (length free))

module _ (nodes : ℕ) (chains : List Chain) (cells : List Cell) (long : length chains ≡ 256) (s p o : ℕ) (subject : s < nodes) where
  abbrev arcs : Lists
  arcs = arcs_of chains cells

  abbrev placed : ℕ → ℕ → Bool
  placed = on_chain chains cells

  -- the cell that a put takes is the last that is free
  module _ (rest : List ℕ) (fresh : ℕ) (sound : Sound nodes chains cells (rest ++ fresh ∷ [])) (room : length cells ≡ 512) where
    in_chains : s < length chains
    in_chains = omega (arith, sound.small)

    last : length rest < length (rest ++ fresh ∷ [])
    last = omega (arith, one_longer rest fresh)

    earlier : (i : ℕ) → i < length rest → i < length (rest ++ fresh ∷ [])
    earlier i h = omega (arith, one_longer rest fresh)

    pub fresh_below : fresh < 512
    fresh_below = subst (λ c. c < 512) (at_end rest fresh) (sound.spare (length rest) last)

    fresh_off : (n : ℕ) → placed n fresh ≡ false
    fresh_off n = subst (λ c. placed n c ≡ false) (at_end rest fresh) (sound.unused (length rest) n last)

    in_cells : fresh < length cells
    in_cells = omega (arith, fresh_below)

    abbrev put_arcs : Lists
    put_arcs = arcs_of (put_chains chains cells s fresh p o) (put_cells chains cells s fresh p o)

    put_list : put_arcs s ≡ (p, o) ∷ arcs s
    put_list = put_here chains cells s fresh p o in_chains in_cells (fresh_off s)

    put_lists : (n : ℕ) → (n ≡ s → ⊥) → put_arcs n ≡ arcs n
    put_lists n d = put_others chains cells s fresh p o in_chains in_cells n d (fresh_off n)

    put_placed : Gains placed s fresh (on_chain (put_chains chains cells s fresh p o) (put_cells chains cells s fresh p o))
    put_placed = put_gains chains cells s fresh p o in_chains in_cells fresh_off

    pub put_added : Added arcs s p o put_arcs
    put_added = added arcs put_arcs s p o put_lists (λ a b. rw put_list refl)

    pub put_sound : has p o (arcs s) ≡ false → (chain_at chains s).fan ≢ 12 → p < 256 → o < nodes
        → Sound nodes (put_chains chains cells s fresh p o) (put_cells chains cells s fresh p o) rest
    put_sound absent unfilled fits object =
        let after = on_chain (put_chains chains cells s fresh p o) (put_cells chains cells s fresh p o) in
        let new : Chain = record { head = fresh; fan = (chain_at chains s).fan + 1 } in
        let old_at = before_end rest fresh in
        let other : (i : ℕ) → i < length rest → fresh ≡ get_or rest i 0 → ⊥ =
        λ i h e. let q = sound.unlike (length rest) i (last, earlier i h, at_end rest fresh ∙ e ∙ sym (old_at i h)) in omega arith in
        record {
          small = sound.small;
          counted = omega (arith, total_more arcs put_arcs s nodes subject (ap length put_list) put_lists, sound.counted, one_longer rest fresh);
          few = at_each (λ n. (chain_at (put_chains chains cells s fresh p o) n).fan ≤ 12) s
              (rw (get_or-set_same chains s new _ in_chains) (omega (arith, sound.few s, unfilled)))
              (λ n d. rw (get_or-set_other chains s n new _ d) (sound.few n));
          past = λ n h. let d : n ≢ s = omega arith in rw (get_or-set_other chains s n new _ d) (sound.past n h);
          apart = each_after arcs put_arcs s p o put_lists distinct (rw put_list (distinct_front p o (arcs s) absent (sound.apart s))) sound.apart;
          within = each_after arcs put_arcs s p o put_lists (inside nodes) (rw put_list (inside_front nodes p o (arcs s) fits object (sound.within s))) sound.within;
          linked = gains_below placed s fresh after put_placed 512 fresh_below sound.linked;
          own = gains_cut placed s fresh after put_placed fresh_off sound.own;
          spare = λ i h. subst (λ c. c < 512) (old_at i h) (sound.spare i (earlier i h));
          unused = λ i n h. gains_off placed s fresh after put_placed n (get_or rest i 0) (other i h) (subst (λ c. placed n c ≡ false) (old_at i h) (sound.unused i n (earlier i h)));
          unlike = λ i j h. sound.unlike i j (earlier i h.0, earlier j h.1, old_at i h.0 ∙ h.2 ∙ sym (old_at j h.1));
        }

  module _ (free : List ℕ) (sound : Sound nodes chains cells free) (room : length cells ≡ 512) (f : ℕ) (at_cell : placed s f ≡ true) (holds : arc_at cells f ≡ (p, o)) where
    abbrev head : ℕ
    head = (chain_at chains s).head

    within_chains : s < length chains
    within_chains = omega (arith, sound.small)

    within_cells : f < length cells
    within_cells = omega (arith, sound.linked s f at_cell)

    abbrev take_arcs : Lists
    take_arcs = arcs_of (take_chains chains cells s f) (take_cells chains cells s f)

    abbrev taken : ℕ → ℕ → Bool
    taken = on_chain (take_chains chains cells s f) (take_cells chains cells s f)

    pub some : 0 < (chain_at chains s).fan
    some = longer (chain_at chains s).fan at_cell
      where
        longer : (k : ℕ) → on cells k head f ≡ true → 0 < k
        longer zero e = clash (sym e)
        longer (suc k) e = omega arith

    present : has p o (arcs s) ≡ true
    present = cell_has chains cells s f p o at_cell holds

    -- a cell on the chain of s is on no other
    off_others : (n : ℕ) → (n ≡ s → ⊥) → (c : ℕ) → placed s c ≡ true → placed n c ≡ false
    off_others n d c h =
        ⊎_elim (λ (e : placed n c ≡ true). absurd (d (one_chain placed sound.own n s c e h))) (λ (e : placed n c ≡ false). e) (cases_Bool (placed n c))

    take_list : take_arcs s ≡ without p o (arcs s)
    take_list =
        take_here chains cells s f within_chains within_cells some (sound.apart s) at_cell
        ∙ ap (λ (a : Arc). without a.0 a.1 (arcs s)) holds

    take_lists : (n : ℕ) → (n ≡ s → ⊥) → take_arcs n ≡ arcs n
    take_lists n d = take_others chains cells s f within_chains within_cells some n d (off_others n d f at_cell)

    take_placed : Gains taken s head placed
    take_placed = take_gains chains cells s f within_chains within_cells some

    pub take_removed : Removed arcs s p o take_arcs
    take_removed = removed arcs take_arcs s p o take_lists (λ a b. rw take_list (has_without p o (arcs s) a b present (sound.apart s)))

    one_less : total nodes arcs ≡ suc (total nodes take_arcs)
    one_less = total_more take_arcs arcs s nodes subject (length_without p o (arcs s) present ∙ ap (λ l. suc (length l)) (sym take_list)) (λ n d. sym (take_lists n d))

    pub not_all_free : length free < 512
    not_all_free = omega (arith, one_less, sound.counted)

    on_head : placed s head ≡ true
    on_head = on_first cells (chain_at chains s).fan head some

    pub head_below : head < 512
    head_below = sound.linked s head on_head

    -- the head is on no chain any more
    freed : (n : ℕ) → taken n head ≡ false
    freed = at_each (λ n. taken n head ≡ false) s (take_freed chains cells s f within_chains within_cells some (sound.apart s))
        (λ n d. still_off taken s head placed take_placed n head (off_others n d head on_head))

    pub take_sound : Sound nodes (take_chains chains cells s f) (take_cells chains cells s f) (free ++ head ∷ [])
    take_sound =
        let new : Chain = record { head = (cell_at cells head).next; fan = (chain_at chains s).fan - 1 } in
        let each = each_longer free head in
        let used : (i : ℕ) → i < length free → get_or free i 0 ≡ head → ⊥ = λ i h e. clash (sym on_head ∙ subst (λ c. placed s c ≡ false) e (sound.unused i s h)) in
        record {
          small = sound.small;
          counted = omega (arith, one_less, sound.counted, one_longer free head);
          few = at_each (λ n. (chain_at (take_chains chains cells s f) n).fan ≤ 12) s
              (rw (get_or-set_same chains s new _ within_chains) (omega (arith, sound.few s)))
              (λ n d. rw (get_or-set_other chains s n new _ d) (sound.few n));
          past = λ n h. let d : n ≢ s = omega arith in rw (get_or-set_other chains s n new _ d) (sound.past n h);
          apart = each_after arcs take_arcs s p o take_lists distinct (rw take_list (distinct_without p o (arcs s) present (sound.apart s))) sound.apart;
          within = each_after arcs take_arcs s p o take_lists (inside nodes) (rw take_list (inside_without nodes p o (arcs s) (sound.within s))) sound.within;
          linked = λ n c h. sound.linked n c (kept taken s head placed take_placed n c h);
          own = loses_cut taken s head placed take_placed sound.own;
          spare = each (λ i c. c < 512) head_below sound.spare;
          unused = λ i n h. each (λ j c. taken n c ≡ false) (freed n) (λ j l. still_off taken s head placed take_placed n (get_or free j 0) (sound.unused j n l)) i h;
          unlike = λ i j h. each (λ i c. (j : ℕ) → j < length (free ++ head ∷ []) → c ≡ get_or (free ++ head ∷ []) j 0 → i ≡ j)
              (each (λ j d. head ≡ d → length free ≡ j) (λ e. refl) (λ j l e. absurd (used j l (sym e))))
              (λ i l. each (λ j d. get_or free i 0 ≡ d → i ≡ j) (λ e. absurd (used i l e)) (λ j m e. sound.unlike i j (l, m, e)))
              i h.0 j h.1 h.2;
        }

-- what `find` answers

pub not_found : {A : Type 0} (r : Option A) (P : Type 0) (Q : A → Type 0) → MatchOption r P Q → is_some r ≡ false → P
not_found None P Q h e = h
not_found (Some x) P Q h e = clash e

pub found : {A : Type 0} (r : Option A) (P : Type 0) (Q : A → Type 0) → MatchOption r P Q → is_some r ≡ true → (x : A) × Q x
found None P Q h e = clash (sym e)
found (Some x) P Q h e = (x, h)
