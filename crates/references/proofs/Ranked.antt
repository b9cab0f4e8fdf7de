-- The number of labels that a label reaches is a stratification, unless a negated reference lies on a cycle. Assumes nothing.
use Rattle.std.proofs.Common.{◌≡◌, ℕ, zero, suc, ◌<◌, ◌≤◌, Bool, true, false, cond, Decides, sym, refl, ap, ◌∙◌, subst, ⊎_elim, arith}
use Rattle.std.proofs.lemmas.Bool.{both_ways, cases_Bool, cases_lt}
use Rattle.shapes.specs.Expr.{Schema}
use Rattle.shapes.specs.References.{Refers, NegatedCycle, Path, here, step, Stratification}
use Rattle.labels.specs.Members.{how_many}
use Rattle.references.specs.Ways.{way}
use Rattle.references.proofs.Found.{negates_mentions}
use Rattle.references.proofs.Paths.{way_path, path_way}

one_more : (x y : Bool) → (x ≡ true → y ≡ true) → cond x 1 0 ≤ cond y 1 0
one_more true y h = subst (λ b. 1 ≤ cond b 1 0) (sym (h refl)) (omega arith)
one_more false true h = omega arith
one_more false false h = omega arith

how_many_le : (f g : ℕ → Bool) (n : ℕ) → ((k : ℕ) → f k ≡ true → g k ≡ true) → how_many f n ≤ how_many g n
unfolding how_many
how_many_le f g zero h = omega arith
how_many_le f g (suc n) h = omega (arith, how_many_le f g n h, one_more (f n) (g n) (h n))

how_many_lt : (f g : ℕ → Bool) (n : ℕ) → ((k : ℕ) → f k ≡ true → g k ≡ true)
    → (j : ℕ) → j < n → f j ≡ false → g j ≡ true → how_many f n < how_many g n
unfolding how_many
how_many_lt f g zero h j l p q = absurd (omega arith)
how_many_lt f g (suc n) h j l p q =
    ⊎_elim
    (λ (b : j < n). omega (arith, how_many_lt f g n h j b p q, one_more (f n) (g n) (h n)))
    (λ (b : n ≤ j).
    let e : n ≡ j = omega arith in
    let x : ◌≡◌ {A = ℕ} (cond (f n) 1 0) 0 = ap (λ i. cond (f i) 1 0) e ∙ ap (λ v. cond v 1 0) p in
    let y : ◌≡◌ {A = ℕ} (cond (g n) 1 0) 1 = ap (λ i. cond (g i) 1 0) e ∙ ap (λ v. cond v 1 0) q in
    omega (arith, how_many_le f g n h))
    (cases_lt j n)

how_many_all : (f : ℕ → Bool) (n : ℕ) → how_many f n ≤ n
unfolding how_many
how_many_all f zero = omega arith
how_many_all f (suc n) = omega (arith, how_many_all f n, one_more (f n) true (λ _. refl))

module _ (S : Schema) (R U : ℕ → ℕ → Bool) (refers : (l k : ℕ) → Decides (R l k) (Refers S l k))
    (few : S.labels ≤ 32) (known : (l k : ℕ) → Refers S l k → k < S.labels) (reach : (l k : ℕ) → l < 32 → U l k ≡ way R 32 l k) where
  path : (l k : ℕ) → l < 32 → U l k ≡ true → Path S l k
  path l k h e = way_path S R refers 32 l k (sym (reach l k h) ∙ e)

  reached : (l k : ℕ) → l < 32 → Path S l k → U l k ≡ true
  reached l k h p = reach l k h ∙ path_way S R refers 32 (λ i j r. let x = known i j r in omega arith) p

  -- what k reaches, l reaches, if l refers to k
  further : (l k : ℕ) → Refers S l k → (j : ℕ) → U k j ≡ true → U l j ≡ true
  further l k r j e =
      let x : l < S.labels = r.0 in
      let y : k < S.labels = known l k r in
      reached l j (omega arith) (step r (path k j (omega arith) e))

  pub ranked : (σ : ℕ → ℕ) → ((l : ℕ) → l < 32 → σ l ≡ how_many (U l) 32) → (NegatedCycle S → ⊥) → Stratification S σ
  ranked σ size free =
      record {
        from_one = λ l h.
            let i : l < 32 = omega arith in
            let z : how_many (λ k. false) 32 < how_many (U l) 32 =
            how_many_lt (λ k. false) (U l) 32 (λ k e. absurd (both_ways false refl e)) l i refl (reached l l i here) in
            omega (arith, size l i);
        to_most = λ l h. let i : l < 32 = omega arith in omega (arith, size l i, how_many_all (U l) 32);
        refers = λ l k r.
            let x : l < S.labels = r.0 in
            let y : k < S.labels = known l k r in
            let i : l < 32 = omega arith in
            let j : k < 32 = omega arith in
            omega (arith, size l i, size k j, how_many_le (U k) (U l) 32 (further l k r));
        negated = λ l k n.
            let r : Refers S l k = (n.0, negates_mentions (S.definition l) k n.1) in
            let x : l < S.labels = n.0 in
            let y : k < S.labels = known l k r in
            let i : l < 32 = omega arith in
            let j : k < 32 = omega arith in
            let gone : U k l ≡ false =
            ⊎_elim (λ (e : U k l ≡ true). absurd (free (l, k, (n, path k l j e)))) (λ (e : U k l ≡ false). e) (cases_Bool (U k l)) in
            omega (arith, size l i, size k j, how_many_lt (U k) (U l) 32 (further l k r) l i gone (reached l l i here));
      }
