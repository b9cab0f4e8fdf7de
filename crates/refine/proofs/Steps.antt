-- The steps of refinement: one node, one pass over the marked nodes, one stratum.
use Rattle.std.proofs.Common.{◌≡◌, ℕ, ◌+◌, ◌*◌, ◌<◌, ◌≤◌, Bool, true, false, ◌⊎◌, List, length, get_or, set, take, drop, sum, sym, refl, ap, ◌∙◌, subst, inl, inr, ⊎_elim, ◌||◌, below_more, arith}
use native.Mathlib.Decide.{ℕ_discrete}
use borrow.Rule.Slice.PartMut.{put_mid}
use Rattle.std.proofs.lemmas.List.{get_or-set_same, get_or-set_other}
use Rattle.std.proofs.lemmas.Bool.{both_ways, cases_Bool, false_from_ne_true, or_parts, or_cases}
use Rattle.std.proofs.lemmas.Bool.Decides.{not_from_Decides}
use Rattle.std.proofs.lemmas.Nat.{mod-mul-add}
use Rattle.shapes.specs.Expr.{Schema}
use Rattle.shapes.specs.Lists.{Member}
use Rattle.shapes.specs.Typing.{Graph, In, Satisfied}
use Rattle.shapes.proofs.Decide.{false_is_not}
use Rattle.shapes.proofs.Satisfaction.{satisfies_local}
use Rattle.shapes.proofs.Refinement.{covers_less}
use Rattle.shapes.specs.Bytes.{place}
use Rattle.refine.specs.declared.due.Due.{Due}
use Rattle.refine.specs.Tables.{has_label, Checked}
use Rattle.refine.specs.Deciding.{stratum, table}
use Rattle.refine.specs.Due.{is_due, Cleared}
use Rattle.refine.specs.Narrowing.{Fits, Narrowed, Settled, Visited, Passed, Marked}
use Rattle.refine.proofs.Thinned.{Thinned, thinned}
use Rattle.refine.proofs.Places.{same_label, same_node, decides_shown, shown_same, decides_due}

-- n has an arc to o
abbrev pub Leads : Graph → ℕ → ℕ → Type 0
Leads G o n = (p : ℕ) × Member (p, o) (G.arcs n)

-- a mark that is gone after one was taken away
pub mark_before : (marks : List Bool) (n o : ℕ) → get_or (set marks o false) n false ≡ false → (n ≡ o) ⊎ (get_or marks n false ≡ false)
mark_before marks n o e = pick (ℕ_discrete n o)
  where
    pick : Dec (n ≡ o) → (n ≡ o) ⊎ (get_or marks n false ≡ false)
    pick (yes h) = inl h
    pick (no h) = inr (sym (get_or-set_other marks o n false false h) ∙ e)

-- a sum of bytes that stayed or fell; any says which
no_more : {A : Type 0} (any : Bool) (x y : List ℕ) → (any ≡ false → (y ≡ x) × A) → (any ≡ true → sum y < sum x) → sum y ≤ sum x
no_more true x y same fewer = omega (arith, fewer refl)
no_more false x y same fewer = omega (arith, ap sum (same refl).0)

module _ (S : Schema) (G : Graph) (due : Due) where
  pub narrowed_refl : (x : List ℕ) → Narrowed S G due x x
  narrowed_refl x = record { less = λ k. omega arith; same = λ k e. refl; covers = λ C st closed within v. v }

  pub narrowed_trans : (x y z : List ℕ) → Narrowed S G due x y → Narrowed S G due y z → Narrowed S G due x z
  narrowed_trans x y z a b =
      record {
        less = λ k. omega (arith, a.less k, b.less k);
        same = λ k e. b.same k e ∙ a.same k e;
        covers = λ C st closed within v. b.covers C st closed within (a.covers C st closed within v);
      }

  module _ (x : List ℕ) (fits : Fits S G due x) (o : ℕ) (found : List Bool) (y : List ℕ) (any : Bool) (bound : o < G.nodes) (checked : Checked S G x o found)
      (c : Thinned due S.labels o found x any y) where
    same_at : (k : ℕ) → is_due due k ≡ false → get_or y k 0 ≡ get_or x k 0
    same_at k f = ⊎_elim (λ e. e) (λ t. absurd (both_ways (is_due due k) f t.is_due)) (c.change k)

    below_at : (n l : ℕ) → l < S.labels → stratum due.strata.now l < due.stratum → get_or y (place S.labels n l) 0 ≡ get_or x (place S.labels n l) 0
    below_at n l h z =
        same_at (place S.labels n l) (false_from_ne_true (is_due due (place S.labels n l))
        (λ d. omega (arith, ap (λ l. get_or due.strata.now l 0) (mod-mul-add n S.labels l h), ((decides_due S G due fits.nodes fits.labels (place S.labels n l)).0 d).1.1)))

    kept_at : (n l : ℕ) → l < S.labels → In (table S G x) n l → Satisfied S G (In (table S G x)) n l → In (table S G y) n l
    kept_at n l h a s =
        ⊎_elim (λ e. shown_same G.nodes S.labels x y n l e a)
        (λ t. absurd (both_ways (has_label found t.label) t.not_found (ap (has_label found) (sym (same_label S.labels n o l t.label h t.bound t.at))
        ∙ (checked l bound h).1 (subst (λ n. Satisfied S G (In (table S G x)) n l) (same_node S.labels n o l t.label h t.bound t.at) s)))) (c.change (place S.labels n l))

    narrowed : Narrowed S G due x y
    narrowed =
        record {
          less = λ k. ⊎_elim (λ e. omega arith) (λ t. omega (arith, t.after)) (c.change k);
          same = same_at;
          covers = λ C st closed within v.
              covers_less S G (stratum due.strata.now) st C closed within due.stratum (table S G x) v (table S G y)
              (λ n l m z. let e = below_at n l (within n l m).1 z in (shown_same G.nodes S.labels y x n l (sym e), shown_same G.nodes S.labels x y n l e))
              (λ n l m e. kept_at n l (within n l m).1);
        }

    -- what is left was there before
    had : (n l : ℕ) → In (table S G y) n l → In (table S G x) n l
    had n l h =
        ⊎_elim (λ e. shown_same G.nodes S.labels y x n l (sym e) h) (λ t. absurd (omega (arith, ((decides_shown G.nodes S.labels y n l).0 h).1, t.after))) (c.change (place S.labels n l))

    -- nothing changed at another node
    other : (n l : ℕ) → ¬ (n ≡ o) → In (table S G x) n l → In (table S G y) n l
    other n l ne h =
        ⊎_elim (λ e. shown_same G.nodes S.labels x y n l e h)
        (λ t. absurd (ne (same_node S.labels n o l t.label ((decides_shown G.nodes S.labels x n l).0 h).0.1 t.bound t.at))) (c.change (place S.labels n l))

    -- so a node that does not lead to o stays satisfied
    away : (n l : ℕ) → ¬ Leads G o n → Satisfied S G (In (table S G x)) n l → Satisfied S G (In (table S G y)) n l
    away n l none =
        satisfies_local S.sets (In (table S G x)) (In (table S G y)) (G.passes n) (G.arcs n) (S.definition l)
        (λ p q m k a. other q k (λ e. none (p, subst (λ q. Member (p, q) (G.arcs n)) e m)))
        (λ p q m k a b. had q k)

    -- a pair at o, or at a node with no mark, was satisfied
    was : (marks : List Bool) → Settled S G due marks x → (n l : ℕ) → n < G.nodes → l < S.labels → is_due due (place S.labels n l) ≡ true → In (table S G y) n l
        → (n ≡ o) ⊎ (get_or marks n false ≡ false) → Satisfied S G (In (table S G x)) n l
    was marks settled n l hn hl d a (inl e) =
        rw e ((checked l bound hl).0 (c.left l hl (rw e at d) ((decides_shown G.nodes S.labels y o l).0 (rw e at a)).1))
    was marks settled n l hn hl d a (inr e) = settled n l hn hl e d (had n l a)

    pub visited : (marks marks' : List Bool) → (any ≡ true → Marked (Leads G o) G.nodes (set marks o false) marks') → (any ≡ false → marks' ≡ set marks o false)
        → Visited S G due any marks marks' x y o
    visited marks marks' marked kept =
        record {
          change = narrowed;
          after = λ settled n l hn hl m d a. after settled n l hn hl m d a (cases_Bool any);
          same = λ e. (c.same e, kept e);
          fewer = c.fewer;
        }
      where
        after : Settled S G due marks x → (n l : ℕ) → n < G.nodes → l < S.labels → get_or marks' n false ≡ false → is_due due (place S.labels n l) ≡ true → In (table S G y) n l
            → (any ≡ true) ⊎ (any ≡ false) → Satisfied S G (In (table S G y)) n l
        after settled n l hn hl m d a (inl e) =
            let none = not_from_Decides (get_or marks' n false) ((marked e).before n hn) m in
            away n l (λ leads. none (inr leads)) (was marks settled n l hn hl d a (mark_before marks n o (false_from_ne_true (get_or (set marks o false) n false) (λ t. none (inl t)))))
        after settled n l hn hl m d a (inr e) =
            rw (c.same e) (was marks settled n l hn hl d a (mark_before marks n o (rw (kept e) at m)))

  -- the row of one node, written into the table from a on
  pub visited_row : (x : List ℕ) → Fits S G due x → (o : ℕ) (found : List Bool) (row : List ℕ) (any : Bool) (a n : ℕ) → a ≡ o * due.labels → n ≡ due.labels → a + n ≤ length x → length row ≡ n
      → Cleared due o found (take n (drop a x)) any row → (marks marks' : List Bool) → o < G.nodes → Checked S G x o found
      → (any ≡ true → Marked (Leads G o) G.nodes (set marks o false) marks') → (any ≡ false → marks' ≡ set marks o false) → Visited S G due any marks marks' x (put_mid a n x row) o
  visited_row x fits o found row any a n start size long same c marks marks' bound checked =
      visited x fits o found (put_mid a n x row) any bound checked
      (subst (λ l. Thinned due l o found x any (put_mid a n x row)) fits.labels (thinned due o found x row any a n start size long same c)) marks marks'

  -- and where no due pair is there
  pub visited_none : (x : List ℕ) → Fits S G due x → (o : ℕ) (marks : List Bool)
      → ((l : ℕ) → l < due.labels → get_or x (o * due.labels + l) 0 ≡ 1 → is_due due (o * due.labels + l) ≡ true → ⊥) → Visited S G due false marks (set marks o false) x x o
  visited_none x fits o marks none =
      record {
        change = narrowed_refl x;
        after = λ settled n l hn hl m d a.
            ⊎_elim
            (λ e. absurd (subst (λ L. (l : ℕ) → l < L → get_or x (o * L + l) 0 ≡ 1 → is_due due (o * L + l) ≡ true → ⊥) fits.labels none l hl (rw e at ((decides_shown G.nodes S.labels x n l).0 a).1) (rw e at d)))
            (λ e. settled n l hn hl e d a) (mark_before marks n o m);
        same = λ e. (refl, refl);
        fewer = λ e. false_is_not e;
      }

  -- one more of the nodes: it has no mark, or is checked
  module _ (any : Bool) (marks marks' : List Bool) (x y : List ℕ) (m : ℕ) (p : Passed S G due any marks marks' x y m) where
    pub passed_unmarked : get_or marks' m false ≡ false → Passed S G due any marks marks' x y (m + 1)
    passed_unmarked e = record { change = p.change; after = p.after; same = λ f. ((p.same f).0, below_more _ m (p.same f).1 e); fewer = p.fewer }

    pub passed_visited : (any' : Bool) (marks'' : List Bool) (z : List ℕ) → m < length marks' → Visited S G due any' marks' marks'' y z m
        → Passed S G due (any || any') marks marks'' x z (m + 1)
    passed_visited any' marks'' z long v =
        record {
          change = narrowed_trans x y z p.change v.change;
          after = λ s. v.after (p.after s);
          same = λ e. same_parts (or_parts any any' e);
          fewer = λ e. ⊎_elim (λ t. omega (arith, p.fewer t, no_more any' y z v.same v.fewer)) (λ t. omega (arith, no_more any x y p.same p.fewer, v.fewer t)) (or_cases any any' e);
        }
      where
        same_parts : (any ≡ false) × (any' ≡ false) → (z ≡ x) × ((n : ℕ) → n < m + 1 → get_or marks'' n false ≡ false)
        same_parts (e, f) =
            let marked : marks'' ≡ set marks' m false = (v.same f).1 in
            ((v.same f).0 ∙ (p.same e).0, rw marked (below_more _ m (λ n h. get_or-set_other marks' m n false false (λ e. omega arith) ∙ (p.same e).1 n h) (get_or-set_same marks' m false false long)))
