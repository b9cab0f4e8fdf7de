-- That a step of one ledger is the step of every ledger alike, whichever stratification each goes by. Assumes nothing.
use Rattle.std.proofs.Common.{◌≡◌, ℕ, zero, suc, ◌*◌, ◌/◌, ◌%◌, ◌<◌, Bool, true, false, not, ◌&&◌, ◌||◌, ◌⊎◌, ◌↔◌, List, get_or, take, Some, None, Ok, Err, Decides, Option, Result, sym, refl, ap, ◌∙◌, subst, inl, inr, ⊎_elim, mod-lt, div-lt_iff_lt-mul, div-add-mod', arith}
use native.Mathlib.Decide.{dec_lt}
use Rattle.std.proofs.lemmas.List.{ext_get_or}
use Rattle.refusal.specs.Refusals.{Refusal}
use Rattle.triple.specs.Arcs.{distinct}
use Rattle.triple.specs.Stores.{present, is}
use Rattle.shapes.specs.Expr.{Schema}
use Rattle.shapes.specs.References.{Stratification}
use Rattle.shapes.specs.Typing.{In}
use Rattle.shapes.specs.Bytes.{place}
use Rattle.shapes.specs.Leaning.{Reached}
use Rattle.ledger.specs.Ledger.{Ledger, graph, Verdict}
use Rattle.ledger.specs.Steps.{Fixed, Edited, AddStep, WithdrawStep, LookStep, HeldStep, Shows, SweepStep, ones}
use Rattle.ledger.specs.Alike.{Alike}
use Rattle.ledger.proofs.Alike.{alike_sym, add_same, withdraw_same, pair_same, reaches_same, reached_over, verdict_same}

same_test : (x y : Bool) → (x ≡ true → y ≡ true) → (y ≡ true → x ≡ true) → x ≡ y
same_test true y f g = sym (f refl)
same_test false true f g = g refl
same_test false false f g = refl

factor_positive : (n m k : ℕ) → k < n * m → 0 < m
factor_positive n zero k h = absurd (omega arith)
factor_positive n (suc m) k h = omega arith

clash : {A B : Type 0} {e : A} (x y : Option A) → x ≡ y → x ≡ Some e → y ≡ None → B
clash x y h p q = let z : ◌≡◌ {A = ℕ} 0 1 = cc in absurd (omega arith)

agreed : {A B : Type 0} {e f : B} (x y : Option B) → x ≡ y → x ≡ Some e → y ≡ Some f → ◌≡◌ {A = Result A B} (Err e) (Err f)
agreed x y h p q = cc

module _ (b c : Ledger) (alike : Alike b c) where
  after : (b' c' : Ledger) → Fixed b b' → Fixed c c'
      → ((n : ℕ) → distinct (b'.arcs n) ≡ true) → ((n : ℕ) → distinct (c'.arcs n) ≡ true)
      → ((s p o : ℕ) → present b'.arcs s p o ≡ present c'.arcs s p o) → ((n l : ℕ) → In b'.held n l → In c'.held n l) → ((n l : ℕ) → In c'.held n l → In b'.held n l) → Alike b' c'
  after b' c' f g d e triples over back =
      record {
        nodes = f.nodes ∙ alike.nodes ∙ sym g.nodes;
        capacity = f.capacity ∙ alike.capacity ∙ sym g.capacity;
        literals = λ n. ap (λ t. t n) f.literals ∙ alike.literals n ∙ sym (ap (λ t. t n) g.literals);
        passes = λ n t. ap (λ p. p n t) f.passes ∙ alike.passes n t ∙ sym (ap (λ p. p n t) g.passes);
        apart = λ n. (d n, e n);
        triples = triples;
        held = λ n l. same_test (b'.held n l) (c'.held n l) (over n l) (back n l);
      }

  edited : (b' c' : Ledger) (s : ℕ) → Edited b s b' → Edited c s c' → ((n p o : ℕ) → present b'.arcs n p o ≡ present c'.arcs n p o) → Alike b' c'
  edited b' c' s x y triples =
      after b' c' x.fixed y.fixed x.apart y.apart triples
      (λ n l h. let was = (x.dropped n l).0 h in (y.dropped n l).1 (sym (alike.held n l) ∙ was.0, λ r. was.1 ((reaches_same b c alike s n).1 r)))
      (λ n l h. let was = (y.dropped n l).0 h in (x.dropped n l).1 (alike.held n l ∙ was.0, λ r. was.1 ((reaches_same b c alike s n).0 r)))

  pub add_determined : {s p o : ℕ} {r q : Result (Unit {0}) Refusal} {b' c' : Ledger} → AddStep b s p o r b' → AddStep c s p o q c' → (r ≡ q) × Alike b' c'
  add_determined {s} {p} {o} (AddStep.refused x) (AddStep.refused y) = (agreed _ _ (add_same b c alike s p o) x y, alike)
  add_determined {s} {p} {o} (AddStep.refused x) (AddStep.accepted y _ _) = clash _ _ (add_same b c alike s p o) x y
  add_determined {s} {p} {o} (AddStep.accepted x _ _) (AddStep.refused y) = clash _ _ (sym (add_same b c alike s p o)) y x
  add_determined {s} {p} {o} {b' = b'} {c' = c'} (AddStep.accepted _ added x) (AddStep.accepted _ added' y) =
      (refl, edited b' c' s x y (λ n k m. added n k m ∙ ap (λ t. is n k m s p o || t) (alike.triples n k m) ∙ sym (added' n k m)))

  pub withdraw_determined : {s p o : ℕ} {r q : Result (Unit {0}) Refusal} {b' c' : Ledger} → WithdrawStep b s p o r b' → WithdrawStep c s p o q c' → (r ≡ q) × Alike b' c'
  withdraw_determined {s} {p} {o} (WithdrawStep.refused x) (WithdrawStep.refused y) = (agreed _ _ (withdraw_same b c alike s p o) x y, alike)
  withdraw_determined {s} {p} {o} (WithdrawStep.refused x) (WithdrawStep.accepted y _ _) = clash _ _ (withdraw_same b c alike s p o) x y
  withdraw_determined {s} {p} {o} (WithdrawStep.accepted x _ _) (WithdrawStep.refused y) = clash _ _ (sym (withdraw_same b c alike s p o)) y x
  withdraw_determined {s} {p} {o} {b' = b'} {c' = c'} (WithdrawStep.accepted _ removed x) (WithdrawStep.accepted _ removed' y) =
      (refl, edited b' c' s x y (λ n k m. removed n k m ∙ ap (λ t. not (is n k m s p o) && t) (alike.triples n k m) ∙ sym (removed' n k m)))

  module _ (S : Schema) (σ ρ : ℕ → ℕ) (st : Stratification S σ) (rt : Stratification S ρ) where
    -- the arcs stay
    kept : (b' c' : Ledger) → Fixed b b' → Fixed c c' → b'.arcs ≡ b.arcs → c'.arcs ≡ c.arcs
        → ((n l : ℕ) → In b'.held n l → In c'.held n l) → ((n l : ℕ) → In c'.held n l → In b'.held n l) → Alike b' c'
    kept b' c' f g x y =
        after b' c' f g (λ n. ap (λ arcs. distinct (arcs n)) x ∙ (alike.apart n).0) (λ n. ap (λ arcs. distinct (arcs n)) y ∙ (alike.apart n).1)
        (λ s p o. ap (λ arcs. present arcs s p o) x ∙ alike.triples s p o ∙ sym (ap (λ arcs. present arcs s p o) y))

    decided : (n l : ℕ) {x y : Bool} → Decides x (Verdict S σ b n l) → Decides y (Verdict S ρ c n l) → x ≡ y
    decided n l {x} {y} d e =
        let same = verdict_same b c alike S σ ρ st rt n l in
        same_test x y (λ h. e.1 (same.0 (d.0 h))) (λ h. d.1 (same.1 (e.0 h)))

    pub look_determined : {n l : ℕ} {r q : Result Bool Refusal} {b' c' : Ledger} → LookStep S σ b n l r b' → LookStep S ρ c n l q c' → (r ≡ q) × Alike b' c'
    look_determined {n} {l} (LookStep.refused x) (LookStep.refused y) = (agreed _ _ (pair_same b c alike S n l) x y, alike)
    look_determined {n} {l} (LookStep.refused x) (LookStep.looked y _ _) = clash _ _ (pair_same b c alike S n l) x y
    look_determined {n} {l} (LookStep.looked x _ _) (LookStep.refused y) = clash _ _ (sym (pair_same b c alike S n l)) y x
    look_determined {n} {l} {b' = b'} {c' = c'} (LookStep.looked _ d x) (LookStep.looked _ e y) = (
      ap Ok (decided n l d e),
      kept b' c' x.fixed y.fixed x.arcs y.arcs
          (λ o k h. (y.held o k).1 (⊎_elim (λ (i : In b.held o k). inl (sym (alike.held o k) ∙ i)) (λ (r : Reached S (graph b) n l o k). inr (reached_over b c alike S n l o k r)) ((x.held o k).0 h)))
          (λ o k h. (x.held o k).1 (⊎_elim (λ (i : In c.held o k). inl (alike.held o k ∙ i)) (λ (r : Reached S (graph c) n l o k). inr (reached_over c b (alike_sym b c alike) S n l o k r)) ((y.held o k).0 h))),
    )

    pub held_determined : {n l : ℕ} {r q : Result (Option Bool) Refusal} → HeldStep S σ b n l r → HeldStep S ρ c n l q → r ≡ q
    held_determined {n} {l} (HeldStep.refused x) (HeldStep.refused y) = agreed _ _ (pair_same b c alike S n l) x y
    held_determined {n} {l} (HeldStep.refused x) (HeldStep.not_held y _) = clash _ _ (pair_same b c alike S n l) x y
    held_determined {n} {l} (HeldStep.refused x) (HeldStep.held y _ _) = clash _ _ (pair_same b c alike S n l) x y
    held_determined {n} {l} (HeldStep.not_held x _) (HeldStep.refused y) = clash _ _ (sym (pair_same b c alike S n l)) y x
    held_determined {n} {l} (HeldStep.not_held _ h) (HeldStep.not_held _ i) = refl
    held_determined {n} {l} (HeldStep.not_held _ h) (HeldStep.held _ i _) = let same = alike.held n l in let z : ◌≡◌ {A = ℕ} 0 1 = cc in absurd (omega arith)
    held_determined {n} {l} (HeldStep.held x _ _) (HeldStep.refused y) = clash _ _ (sym (pair_same b c alike S n l)) y x
    held_determined {n} {l} (HeldStep.held _ h _) (HeldStep.not_held _ i) = let same = alike.held n l in let z : ◌≡◌ {A = ℕ} 0 1 = cc in absurd (omega arith)
    held_determined {n} {l} (HeldStep.held _ _ d) (HeldStep.held _ _ e) = ap (λ yes. Ok (Some yes)) (decided n l d e)

    size : b.nodes * S.labels ≡ c.nodes * S.labels
    size = ap (λ n. n * S.labels) alike.nodes

    -- two bytes that each tell whether a verdict holds
    byte_same : {x y : ℕ} {P Q : Type 0} → P ↔ Q → ((x ≡ 1) × P) ⊎ ((x ≡ 0) × ¬ P) → ((y ≡ 1) × Q) ⊎ ((y ≡ 0) × ¬ Q) → x ≡ y
    byte_same same (inl p) (inl q) = p.0 ∙ sym q.0
    byte_same same (inl p) (inr q) = absurd (q.1 (same.0 p.1))
    byte_same same (inr p) (inl q) = absurd (p.1 (same.1 q.1))
    byte_same same (inr p) (inr q) = p.0 ∙ sym q.0

    module _ (table t u : List ℕ) (shows : Shows S σ b table t) (shown : Shows S ρ c table u) where
      bytes_of_pairs : (k : ℕ) → k < b.nodes * S.labels → get_or t k 0 ≡ get_or u k 0
      bytes_of_pairs k h =
          let some : 0 < S.labels = factor_positive b.nodes S.labels k h in
          let row : k / S.labels < b.nodes = (div-lt_iff_lt-mul some).1 h in
          let column : k % S.labels < S.labels = mod-lt k some in
          let at : place S.labels (k / S.labels) (k % S.labels) ≡ k = div-add-mod' k S.labels in
          subst (λ k. get_or t k 0 ≡ get_or u k 0) at
          (byte_same (verdict_same b c alike S σ ρ st rt (k / S.labels) (k % S.labels)) (shows.pairs (k / S.labels) (k % S.labels) row column)
          (shown.pairs (k / S.labels) (k % S.labels) (subst (λ m. k / S.labels < m) alike.nodes row) column))

      bytes : (k : ℕ) → Dec (k < b.nodes * S.labels) → get_or t k 0 ≡ get_or u k 0
      bytes k (yes h) = bytes_of_pairs k h
      bytes k (no h) = shows.later k (omega arith) ∙ sym (shown.later k (omega (arith, size)))

      tables_same : t ≡ u
      tables_same = ext_get_or 0 t u (shows.kept ∙ sym shown.kept) (λ k _. bytes k (dec_lt k (b.nodes * S.labels)))

    pub sweep_determined : {strata table t u : List ℕ} {r q : Result ℕ Refusal} {b' c' : Ledger}
        → SweepStep S σ b strata table r t b' → SweepStep S ρ c strata table q u c' → (r ≡ q) × (t ≡ u) × Alike b' c'
    sweep_determined (SweepStep.few_strata x) (SweepStep.few_strata y) = (refl, refl, alike)
    sweep_determined (SweepStep.few_strata x) (SweepStep.no_strata y _) = absurd (omega arith)
    sweep_determined (SweepStep.few_strata x) (SweepStep.short_table y _ _) = absurd (omega arith)
    sweep_determined (SweepStep.few_strata x) (SweepStep.swept y _ _ _ _) = absurd (omega arith)
    sweep_determined (SweepStep.no_strata x _) (SweepStep.few_strata y) = absurd (omega arith)
    sweep_determined (SweepStep.no_strata _ x) (SweepStep.no_strata _ y) = (refl, refl, alike)
    sweep_determined (SweepStep.no_strata _ x) (SweepStep.short_table _ y _) = absurd (x y)
    sweep_determined (SweepStep.no_strata _ x) (SweepStep.swept _ y _ _ _) = absurd (x y)
    sweep_determined (SweepStep.short_table x _ _) (SweepStep.few_strata y) = absurd (omega arith)
    sweep_determined (SweepStep.short_table _ x _) (SweepStep.no_strata _ y) = absurd (y x)
    sweep_determined (SweepStep.short_table _ _ x) (SweepStep.short_table _ _ y) = (refl, refl, alike)
    sweep_determined (SweepStep.short_table _ _ x) (SweepStep.swept _ _ y _ _) = absurd (omega (arith, size))
    sweep_determined (SweepStep.swept x _ _ _ _) (SweepStep.few_strata y) = absurd (omega arith)
    sweep_determined (SweepStep.swept _ x _ _ _) (SweepStep.no_strata _ y) = absurd (y x)
    sweep_determined (SweepStep.swept _ _ x _ _) (SweepStep.short_table _ _ y) = absurd (omega (arith, size))
    sweep_determined {table = table} {t = t} {u = u} {b' = b'} {c' = c'} (SweepStep.swept _ _ _ x v) (SweepStep.swept _ _ _ y w) =
        let same = tables_same table t u x y in (
          ap (λ m. Ok (ones (take m t))) size ∙ ap (λ bytes. Ok (ones (take (c.nodes * S.labels) bytes))) same,
          same,
          kept b' c' v.fixed w.fixed v.arcs w.arcs
              (λ n l h. let i = (v.held n l).0 h in (w.held n l).1 (subst (λ m. n < m) alike.nodes i.0, i.1))
              (λ n l h. let i = (w.held n l).0 h in (v.held n l).1 (subst (λ m. n < m) (sym alike.nodes) i.0, i.1)),
        )
