-- Lists of arcs of which one gains an arc, at any place. Assumes nothing.
use Rattle.std.proofs.Common.{◌≡◌, ℕ, suc, ◌<◌, ◌≤◌, Bool, true, false, not, ◌&&◌, ◌||◌, eqb, ltb, ◌≢◌, List, [], ◌∷◌, ◌++◌, length, sym, refl, ap, ◌∙◌, ⊎_elim, arith}
use Rattle.std.proofs.lemmas.Bool.{eq-eqb, ne_eqb, and_parts, and_from, not-true, not_from_false, cases_eq, lt-ltb}
use Rattle.triple.specs.Arcs.{Arc, same, has, distinct, inside}
use Rattle.triple.specs.Stores.{Lists, total, Lawful, Added, Removed}
use Rattle.triple.proofs.Changes.{same_refl, first_only, added, removed, each_after}
use Rattle.triple.proofs.Totals.{at_each, total_more}

-- a list of arcs with one more in its middle

or_swap : (a b c : Bool) → (a || (b || c)) ≡ (b || (a || c))
or_swap true true c = refl
or_swap true false c = refl
or_swap false b c = refl

and_swap : (a b c : Bool) → (a && (b && c)) ≡ (b && (a && c))
and_swap true b c = refl
and_swap false true c = refl
and_swap false false c = refl

-- of x, y and a list without repeats: x is no other and y is none of the rest, read from either side
apart_swap : (alike x y rest : Bool) → (not (alike || y) && (not x && rest)) ≡ (not (alike || x) && (not y && rest))
apart_swap true x y rest = refl
apart_swap false x y rest = and_swap (not y) (not x) rest

eqb_sym : (m n : ℕ) → eqb m n ≡ eqb n m
eqb_sym m n =
    ⊎_elim (λ (e : m ≡ n). eq-eqb m n e ∙ sym (eq-eqb n m (sym e))) (λ (d : m ≡ n → ⊥). ne_eqb m n d ∙ sym (ne_eqb n m (λ e. d (sym e)))) (cases_eq m n)

same_sym : (x y : Arc) → same x y.0 y.1 ≡ same y x.0 x.1
same_sym x y = ap (λ b. b && eqb x.1 y.1) (eqb_sym x.0 y.0) ∙ ap (λ b. eqb y.0 x.0 && b) (eqb_sym x.1 y.1)

has_middle : (left right : List Arc) (x : Arc) (a b : ℕ) → has a b (left ++ x ∷ right) ≡ (same x a b || has a b (left ++ right))
has_middle [] right x a b = refl
has_middle (y ∷ left) right x a b = ap (λ h. same y a b || h) (has_middle left right x a b) ∙ or_swap (same y a b) (same x a b) (has a b (left ++ right))

distinct_middle : (left right : List Arc) (x : Arc) → distinct (left ++ x ∷ right) ≡ (not (has x.0 x.1 (left ++ right)) && distinct (left ++ right))
distinct_middle [] right x = refl
distinct_middle (y ∷ left) right x =
    rw (has_middle left right x y.0 y.1, distinct_middle left right x, same_sym x y)
    (apart_swap (same y x.0 x.1) (has x.0 x.1 (left ++ right)) (has y.0 y.1 (left ++ right)) (distinct (left ++ right)))

inside_middle : (n : ℕ) (left right : List Arc) (x : Arc) → inside n (left ++ x ∷ right) ≡ ((ltb x.0 256 && ltb x.1 n) && inside n (left ++ right))
inside_middle n [] right x = refl
inside_middle n (y ∷ left) right x =
    ap (λ b. (ltb y.0 256 && ltb y.1 n) && b) (inside_middle n left right x)
    ∙ and_swap (ltb y.0 256 && ltb y.1 n) (ltb x.0 256 && ltb x.1 n) (inside n (left ++ right))

length_middle : (left right : List Arc) (x : Arc) → length (left ++ x ∷ right) ≡ suc (length (left ++ right))
length_middle [] right x = refl
length_middle (y ∷ left) right x = ap suc (length_middle left right x)

-- the list of s gains (p, o), and no other list changes
pub record Gains (before after : Lists) (s p o : ℕ) : Type 0 where
  pub left : List Arc
  pub right : List Arc
  pub without : before s ≡ left ++ right
  pub with : after s ≡ left ++ (p, o) ∷ right
  pub others : (n : ℕ) → (n ≡ s → ⊥) → after n ≡ before n

module _ (before after : Lists) (s p o : ℕ) (g : Gains before after s p o) where
  gains_has : (a b : ℕ) → has a b (after s) ≡ (same (p, o) a b || has a b (before s))
  gains_has a b = rw (g.with, g.without) (has_middle g.left g.right (p, o) a b)

  gains_distinct : distinct (after s) ≡ (not (has p o (before s)) && distinct (before s))
  gains_distinct = rw (g.with, g.without) (distinct_middle g.left g.right (p, o))

  gains_inside : (n : ℕ) → inside n (after s) ≡ ((ltb p 256 && ltb o n) && inside n (before s))
  gains_inside n = rw (g.with, g.without) (inside_middle n g.left g.right (p, o))

  gains_length : length (after s) ≡ suc (length (before s))
  gains_length = rw (g.with, g.without) (length_middle g.left g.right (p, o))

  back : (n : ℕ) → (n ≡ s → ⊥) → before n ≡ after n
  back n d = sym (g.others n d)

  pub gains_present : has p o (after s) ≡ true
  gains_present = gains_has p o ∙ rw (same_refl (p, o)) refl

  pub gains_added : Added before s p o after
  gains_added = added before after s p o g.others gains_has

  pub gains_removed : distinct (after s) ≡ true → Removed after s p o before
  gains_removed d =
      let absent = not-true _ (and_parts _ _ (sym gains_distinct ∙ d)).0 in
      removed after before s p o back (λ a b. first_only (p, o) (before s) p o a b (same_refl (p, o)) absent ∙ ap (λ h. not (same (p, o) a b) && h) (sym (gains_has a b)))

  module _ (nodes capacity : ℕ) (subject : s < nodes) where
    more : total nodes after ≡ suc (total nodes before)
    more = total_more before after s nodes subject gains_length g.others

    pub lawful_more : Lawful nodes capacity before → p < 256 → o < nodes → has p o (before s) ≡ false → (length (before s) ≡ 12 → ⊥) → (total nodes before ≡ capacity → ⊥)
        → Lawful nodes capacity after
    lawful_more lawful property object absent unfilled vacant =
        record {
          small = lawful.small;
          few = at_each (λ n. length (after n) ≤ 12) s (omega (arith, gains_length, lawful.few s)) (λ n d. rw (g.others n d) (lawful.few n));
          apart = each_after before after s p o g.others distinct (gains_distinct ∙ and_from _ _ (not_from_false _ absent) (lawful.apart s)) lawful.apart;
          within = each_after before after s p o g.others (inside nodes) (gains_inside nodes ∙ and_from _ _ (and_from _ _ (lt-ltb p 256 property) (lt-ltb o nodes object)) (lawful.within s)) lawful.within;
          past = λ n h. let d : n ≢ s = omega arith in g.others n d ∙ lawful.past n h;
          room = omega (arith, more, lawful.room);
        }

    pub lawful_less : Lawful nodes capacity after → Lawful nodes capacity before
    lawful_less lawful =
        record {
          small = lawful.small;
          few = at_each (λ n. length (before n) ≤ 12) s (omega (arith, gains_length, lawful.few s)) (λ n d. rw (back n d) (lawful.few n));
          apart = each_after after before s p o back distinct (and_parts _ _ (sym gains_distinct ∙ lawful.apart s)).1 lawful.apart;
          within = each_after after before s p o back (inside nodes) (and_parts _ _ (sym (gains_inside nodes) ∙ lawful.within s)).1 lawful.within;
          past = λ n h. let d : n ≢ s = omega arith in back n d ∙ lawful.past n h;
          room = omega (arith, more, lawful.room);
        }
