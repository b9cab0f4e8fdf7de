-- One arc more or less, in the list of a node and in the lists of all nodes. Assumes nothing.
use Rattle.std.proofs.Common.{◌≡◌, ℕ, zero, suc, Bool, true, false, not, ◌&&◌, ◌||◌, eqb, List, [], refl, ap, ◌∙◌, subst, arith}
use Rattle.std.proofs.lemmas.Bool.{eq-eqb, eqb-true, ne_eqb, and_parts, and_from}
use Rattle.triple.specs.Arcs.{Arc, same, has}
use Rattle.triple.specs.Stores.{Lists, present, total, is, Added, Removed}
use Rattle.triple.proofs.Totals.{at_each}

pub clash : {P : Type 0} → true ≡ false → P
clash e = let z : ◌≡◌ {A = ℕ} 0 1 = cc in absurd (omega arith)

-- equal arcs

pub same_true : (a : Arc) (p o : ℕ) → same a p o ≡ true → a ≡ (p, o)
same_true a p o e =
    let parts = and_parts (eqb a.0 p) (eqb a.1 o) e in
    let f : a.0 ≡ p = eqb-true _ _ parts.0 in
    let g : a.1 ≡ o = eqb-true _ _ parts.1 in
    ap (λ x. (x, a.1)) f ∙ ap (λ y. (p, y)) g

pub same_refl : (a : Arc) → same a a.0 a.1 ≡ true
same_refl a = and_from _ _ (eq-eqb a.0 a.0 refl) (eq-eqb a.1 a.1 refl)

gone : (P H : Bool) → (P ≡ true → H ≡ false) → H ≡ (not P && (P || H))
gone true H d = d refl
gone false H d = refl

-- an arc that stands first in a list without repeats stands nowhere else
pub first_only : (y : Arc) (arcs : List Arc) (p o a b : ℕ) → same y p o ≡ true → has y.0 y.1 arcs ≡ false
    → has a b arcs ≡ (not (same (p, o) a b) && (same y a b || has a b arcs))
first_only y arcs p o a b e h =
    let q = same_true y p o e in
    let other : same y a b ≡ true → has a b arcs ≡ false = λ f. let r = same_true y a b f in subst (λ (z : Arc). has z.0 z.1 arcs ≡ false) r h in
    subst (λ (z : Arc). has a b arcs ≡ (not (same z a b) && (same y a b || has a b arcs))) q (gone (same y a b) (has a b arcs) other)

-- the lists of all nodes, where only that of s changes

module _ (before after : Lists) (s p o : ℕ) (others : (n : ℕ) → (n ≡ s → ⊥) → after n ≡ before n) where
  elsewhere : (n a b : ℕ) → (n ≡ s → ⊥) → is n a b s p o ≡ false
  elsewhere n a b d = rw (ne_eqb n s d) refl

  at_subject : (a b : ℕ) → is s a b s p o ≡ same (p, o) a b
  at_subject a b = rw (eq-eqb s s refl) refl

  pub added : ((a b : ℕ) → has a b (after s) ≡ (same (p, o) a b || has a b (before s))) → Added before s p o after
  added here n a b =
      at_each (λ m. present after m a b ≡ (is m a b s p o || present before m a b)) s
      (rw (at_subject a b) (here a b))
      (λ m d. rw (others m d, elsewhere m a b d) refl) n

  pub removed : ((a b : ℕ) → has a b (after s) ≡ (not (same (p, o) a b) && has a b (before s))) → Removed before s p o after
  removed here n a b =
      at_each (λ m. present after m a b ≡ (not (is m a b s p o) && present before m a b)) s
      (rw (at_subject a b) (here a b))
      (λ m e. rw (others m e, elsewhere m a b e) refl) n

  -- what holds of the list of s and of each list before holds of each list after
  pub each_after : (test : List Arc → Bool) → test (after s) ≡ true → ((n : ℕ) → test (before n) ≡ true) → (n : ℕ) → test (after n) ≡ true
  each_after test here all = at_each (λ m. test (after m) ≡ true) s here (λ m d. rw (others m d) (all m))

-- with no arc at any node the total is 0
pub total_none : (arcs : Lists) (n : ℕ) → ((m : ℕ) → arcs m ≡ []) → total n arcs ≡ 0
total_none arcs zero none = refl
total_none arcs (suc n) none = rw (none n, total_none arcs n none) refl
