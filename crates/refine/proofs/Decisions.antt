-- One stratum after the other, from the verdicts on the held pairs to those on the wanted ones.
use Rattle.std.proofs.Common.{◌≡◌, ℕ, ◌+◌, ◌<◌, ◌≤◌, true, false, cond, ◌⊎◌, ◌↔◌, List, get_or, sym, ap, ◌∙◌, inl, inr, ⊎_elim, arith}
use mathlib.Core.Logic.Iff
use native.Mathlib.Decide.{dec_lt}
use Rattle.std.proofs.lemmas.Bool.{false_from_ne_true, both_ways, cond-true, cond-false, cond_both}
use Rattle.std.proofs.lemmas.Nat.{mod-mul-add}
use Rattle.shapes.specs.Expr.{Schema}
use Rattle.shapes.specs.Typing.{Graph, Typing, In, Maximal}
use Rattle.shapes.specs.Refining.{Covers, Stable as AllStable}
use Rattle.shapes.proofs.Refinement.{maximal_satisfied, refined}
use Rattle.shapes.specs.Bytes.{place}
use Rattle.refine.specs.Deciding.{stratum, either, table, Right, Ready, is_wanted, Untouched, Bits}
use Rattle.refine.specs.declared.due.Due.{Due}
use Rattle.refine.specs.Due.{is_due}
use Rattle.refine.specs.Narrowing.{Narrowed, Stable}
use Rattle.refine.proofs.Places.{place_below, decides_shown, shown_same, decides_either, decides_wanted, decides_due}

module _ (S : Schema) (G : Graph) (strata held wanted : List ℕ) where
  -- the held pairs and the wanted ones
  abbrev both : Typing
  both = either (table S G held) (table S G wanted)

  -- x, from the table x₀, is right on the strata below i
  pub record Risen (i : ℕ) (x₀ x : List ℕ) : Type 0 where
    pub same : Untouched S G wanted x₀ x
    pub bits : Bits S G wanted x
    pub right : Ready S G (stratum strata) (table S G held) (table S G wanted) (table S G x₀)
        → (n l : ℕ) → In (either (table S G held) (table S G wanted)) n l → stratum strata l < i → In (table S G x) n l ↔ Maximal S G (stratum strata) n l

  within : (n l : ℕ) → In both n l → (n < G.nodes) × (l < S.labels)
  within n l c =
      ⊎_elim (λ h. ((decides_shown G.nodes S.labels held n l).0 h).0) (λ h. ((decides_shown G.nodes S.labels wanted n l).0 h).0)
      ((decides_either (table S G held) (table S G wanted) n l).0 c)

  -- a held pair is not a wanted one
  module _ (x₀ : List ℕ) (ready : Ready S G (stratum strata) (table S G held) (table S G wanted) (table S G x₀)) where
    not_wanted : (n l : ℕ) → In (table S G held) n l → is_wanted S G wanted (place S.labels n l) ≡ false
    not_wanted n l h =
        false_from_ne_true (is_wanted S G wanted (place S.labels n l)) (λ e. ready.apart n l h
        ((decides_shown G.nodes S.labels wanted n l).1 (((decides_shown G.nodes S.labels held n l).0 h).0, ((decides_wanted S G wanted (place S.labels n l)).0 e).1)))

    -- so its verdict stays
    pub held_right : (x : List ℕ) → Untouched S G wanted x₀ x → Right S G (stratum strata) (table S G held) (table S G x)
    held_right x same n l h =
        let e = same (place S.labels n l) (not_wanted n l h) in
        Iff.trans (shown_same G.nodes S.labels x x₀ n l (sym e), shown_same G.nodes S.labels x₀ x n l e) (ready.right n l h)

  -- a stratum that no label has
  pub risen_skipped : (i : ℕ) (x₀ x : List ℕ) → ((l : ℕ) → l < S.labels → stratum strata l ≡ i → ⊥) → Risen i x₀ x → Risen (i + 1) x₀ x
  risen_skipped i x₀ x none risen =
      record { same = risen.same; bits = risen.bits; right = λ ready n l c h. risen.right ready n l c (below l h (none l (within n l c).1) (dec_lt (stratum strata l) i)) }
    where
      below : (l : ℕ) → stratum strata l < i + 1 → (stratum strata l ≡ i → ⊥) → Dec (stratum strata l < i) → stratum strata l < i
      below l h f (yes g) = g
      below l h f (no g) = absurd (f (omega arith))

  -- past the last stratum all is decided
  pub risen_decided : (i : ℕ) (x₀ x : List ℕ) → 32 < i → Risen i x₀ x → Ready S G (stratum strata) (table S G held) (table S G wanted) (table S G x₀) → Right S G (stratum strata) both (table S G x)
  risen_decided i x₀ x last risen ready n l c = risen.right ready n l c (omega (arith, ready.stratified.to_most l (within n l c).1))

  -- the wanted bytes cleared
  pub risen_start : (x₀ x : List ℕ) → ((k : ℕ) → get_or x k 0 ≡ cond (is_wanted S G wanted k) 0 (get_or x₀ k 0)) → Risen 1 x₀ x
  risen_start x₀ x cleared =
      record {
        same = λ k e. cleared k ∙ cond-false (is_wanted S G wanted k) 0 (get_or x₀ k 0) e;
        bits = λ k e. omega (arith, cleared k, cond-true (is_wanted S G wanted k) 0 (get_or x₀ k 0) e);
        right = λ ready n l c h. absurd (omega (arith, ready.stratified.from_one l (within n l c).1));
      }

-- the next stratum, with its due pairs raised and narrowed
module _ (S : Schema) (G : Graph) (held : List ℕ) (due : Due) (nodes : due.nodes ≡ G.nodes) (labels : due.labels ≡ S.labels) (x₀ x y z : List ℕ) where
  abbrev pairs : Typing
  pairs = both S G due.strata.now held due.wanted.now

  inside : (n l : ℕ) → In pairs n l → (n < G.nodes) × (l < S.labels)
  inside = within S G due.strata.now held due.wanted.now

  not_due : (k : ℕ) → is_wanted S G due.wanted.now k ≡ false → is_due due k ≡ false
  not_due k e =
      false_from_ne_true (is_due due k) (λ f. let w = (decides_due S G due nodes labels k).0 f in both_ways (is_wanted S G due.wanted.now k) e ((decides_wanted S G due.wanted.now k).1 (w.0, w.1.0)))

  module _ (risen : Risen S G due.strata.now held due.wanted.now due.stratum x₀ x) (raised : (k : ℕ) → get_or y k 0 ≡ cond (is_due due k) 1 (get_or x k 0))
      (narrowed : Narrowed S G due y z) (stable : Stable S G due z) where
    raised_same : (k : ℕ) → is_due due k ≡ false → get_or y k 0 ≡ get_or x k 0
    raised_same k e = raised k ∙ cond-false (is_due due k) 1 (get_or x k 0) e

    untouched_raised : Untouched S G due.wanted.now x₀ y
    untouched_raised k e = raised_same k (not_due k e) ∙ risen.same k e

    untouched : Untouched S G due.wanted.now x₀ z
    untouched k e = narrowed.same k (not_due k e) ∙ untouched_raised k e

    bits_next : Bits S G due.wanted.now z
    bits_next k e = omega (arith, narrowed.less k, raised k, cond_both (is_due due k) 1 (get_or x k 0) (λ v. v ≤ 1) (λ t. omega arith) (λ t. risen.bits k e))

    module _ (ready : Ready S G (stratum due.strata.now) (table S G held) (table S G due.wanted.now) (table S G x₀)) where
      due_wanted : (n l : ℕ) → In (table S G due.wanted.now) n l → stratum due.strata.now l ≡ due.stratum → is_due due (place S.labels n l) ≡ true
      due_wanted n l h e =
          let w = (decides_shown G.nodes S.labels due.wanted.now n l).0 h in
          (decides_due S G due nodes labels (place S.labels n l)).1
          (place_below G.nodes S.labels n l w.0.0 w.0.1, (w.1, ap (λ l. get_or due.strata.now l 0) (mod-mul-add n S.labels l w.0.1) ∙ e))

      low_same : (n l : ℕ) → l < S.labels → stratum due.strata.now l < due.stratum → get_or y (place S.labels n l) 0 ≡ get_or x (place S.labels n l) 0
      low_same n l h z =
          raised_same (place S.labels n l) (false_from_ne_true (is_due due (place S.labels n l))
          (λ e. omega (arith, ((decides_due S G due nodes labels (place S.labels n l)).0 e).1.1, ap (λ l. get_or due.strata.now l 0) (mod-mul-add n S.labels l h))))

      raised_has : (n l : ℕ) → stratum due.strata.now l ≡ due.stratum → In (table S G held) n l ⊎ In (table S G due.wanted.now) n l → Maximal S G (stratum due.strata.now) n l → In (table S G y) n l
      raised_has n l e (inl h) m = (held_right S G due.strata.now held due.wanted.now x₀ ready y untouched_raised n l h).1 m
      raised_has n l e (inr h) m =
          (decides_shown G.nodes S.labels y n l).1
          (((decides_shown G.nodes S.labels due.wanted.now n l).0 h).0, raised (place S.labels n l) ∙ cond-true (is_due due (place S.labels n l)) 1 (get_or x (place S.labels n l) 0) (due_wanted n l h e))

      covers_raised : Covers S G (stratum due.strata.now) pairs due.stratum (table S G y)
      covers_raised =
          record {
            below = λ n l c z.
                let e = low_same n l (inside n l c).1 z in
                Iff.trans (shown_same G.nodes S.labels y x n l (sym e), shown_same G.nodes S.labels x y n l e) (risen.right ready n l c z);
            has = λ n l c e. raised_has n l e ((decides_either (table S G held) (table S G due.wanted.now) n l).0 c);
          }

      covers : Covers S G (stratum due.strata.now) pairs due.stratum (table S G z)
      covers = narrowed.covers pairs ready.stratified ready.closed inside covers_raised

      all_stable : AllStable S G (stratum due.strata.now) pairs due.stratum (table S G z)
      all_stable n l c e a =
          ⊎_elim (λ h. maximal_satisfied S G (stratum due.strata.now) ready.stratified pairs ready.closed inside due.stratum (table S G z) covers n l c e
          ((held_right S G due.strata.now held due.wanted.now x₀ ready z untouched n l h).0 a))
          (λ h. stable n l (inside n l c).0 (inside n l c).1 (due_wanted n l h e) a) ((decides_either (table S G held) (table S G due.wanted.now) n l).0 c)

      right_next : (n l : ℕ) → In pairs n l → stratum due.strata.now l < due.stratum + 1 → Dec (stratum due.strata.now l < due.stratum) → In (table S G z) n l ↔ Maximal S G (stratum due.strata.now) n l
      right_next n l c h (yes g) = covers.below n l c g
      right_next n l c h (no g) = (refined S G (stratum due.strata.now) ready.stratified pairs ready.closed inside due.stratum (table S G z) covers).1 all_stable n l c (omega arith)

    pub risen_next : Risen S G due.strata.now held due.wanted.now (due.stratum + 1) x₀ z
    risen_next = record { same = untouched; bits = bits_next; right = λ ready n l c h. right_next ready n l c h (dec_lt (stratum due.strata.now l) due.stratum) }
