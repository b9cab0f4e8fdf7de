-- The arcs of a list by test and by membership. Assumes nothing.
use Rattle.std.proofs.Common.{◌≡◌, ℕ, true, not, List, [], ◌∷◌, sym, refl, ◌∙◌, subst, ⊎_elim, arith}
use Rattle.std.proofs.lemmas.Bool.{eq-eqb, and_parts, and_from, or_cases, or_left, or_right, not-true, both_ways}
use Rattle.triple.specs.Arcs.{Arc, same, has, distinct}
use Rattle.triple.proofs.Changes.{same_true}
use Rattle.shapes.specs.Lists.{Member, first, later, NoRepeats, Permuted}
use Rattle.shapes.proofs.Lists.{permuted_from_members}

pub has_member : (arcs : List Arc) (p o : ℕ) → has p o arcs ≡ true → Member (p, o) arcs
has_member [] p o e = let z : ◌≡◌ {A = ℕ} 0 1 = cc in absurd (omega arith)
has_member (a ∷ arcs) p o e =
    ⊎_elim
    (λ (h : same a p o ≡ true). subst (λ (z : Arc). Member z (a ∷ arcs)) (same_true a p o h) first)
    (λ (h : has p o arcs ≡ true). later (has_member arcs p o h))
    (or_cases (same a p o) (has p o arcs) e)

pub member_has : (arcs : List Arc) (p o : ℕ) → Member (p, o) arcs → has p o arcs ≡ true
member_has [] p o m = elim m [ ]
member_has (a ∷ arcs) p o first = or_left _ _ (and_from _ _ (eq-eqb p p refl) (eq-eqb o o refl))
member_has (a ∷ arcs) p o (later m) = or_right _ _ (member_has arcs p o m)

pub no_repeats : (arcs : List Arc) → distinct arcs ≡ true → NoRepeats arcs
no_repeats [] e = tt
no_repeats (a ∷ arcs) e =
    let parts = and_parts (not (has a.0 a.1 arcs)) (distinct arcs) e in
    (λ m. both_ways _ (not-true _ parts.0) (member_has arcs a.0 a.1 m), no_repeats arcs parts.1)

-- lists without repeats that have the same arcs
pub permuted_from_has : (xs ys : List Arc) → distinct xs ≡ true → distinct ys ≡ true → ((p o : ℕ) → has p o ys ≡ has p o xs) → Permuted xs ys
permuted_from_has xs ys d e same_arcs =
    permuted_from_members xs ys (no_repeats xs d) (no_repeats ys e)
    (λ a. (
      λ m. has_member ys a.0 a.1 (same_arcs a.0 a.1 ∙ member_has xs a.0 a.1 m),
      λ m. has_member xs a.0 a.1 (sym (same_arcs a.0 a.1) ∙ member_has ys a.0 a.1 m),
    ))
