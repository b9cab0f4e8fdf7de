-- The typing up to a stratum as a table, by taking out what is not satisfied until all that is left is.
use Rattle.std.proofs.Common.{◌≡◌, ℕ, zero, suc, ◌+◌, ◌-◌, ◌<◌, ◌≤◌, Bool, true, false, cond, not, ◌&&◌, ◌||◌, eqb, ◌⊎◌, ◌↔◌, [], Decides, subst, inl, inr, arith}
use mathlib.Core.Logic.Iff
use native.Mathlib.Decide.{dec_lt}
use Rattle.std.proofs.lemmas.Bool.Decides.{Decides-and, Decides-or, Decides-not, Decides-eqb, not_from_Decides}
use Rattle.std.proofs.lemmas.Bool.{cond_both}
use Rattle.shapes.specs.Expr.{Schema}
use Rattle.shapes.specs.References.{Stratification}
use Rattle.shapes.specs.Meaning.{Relation}
use Rattle.shapes.specs.Typing.{Graph, Typing, In, Satisfied, Correct, Candidate, UpTo, Maximal}
use Rattle.shapes.specs.Tables.{Table, shown, count}
use Rattle.shapes.specs.Claims.{Greatest, Decided}
use Rattle.shapes.proofs.Satisfaction.{satisfied_monotone}
use Rattle.shapes.proofs.Decide.{false_is_not, decides_itself, answer, any, decides_any, satisfied, decides_satisfied}
use Rattle.shapes.proofs.Tables.{tabulate, shown_from, shown_gives, count_less}

module _ (S : Schema) (G : Graph) where
  -- the pairs of a table that are satisfied under it
  abbrev pub refine : Table → Table
  refine t = tabulate G.nodes S.labels (λ n l. shown t n l && satisfied S G (shown t) n l)

  -- whether a pair of a table is not
  abbrev pub unstable : Table → Bool
  unstable t = any (λ n. any (λ l. shown t n l && not (satisfied S G (shown t) n l)) S.labels) G.nodes

  abbrev pub settle : ℕ → Table → Table
  settle zero t = t
  settle (suc c) t = cond (unstable t) (settle c (refine t)) t

  -- a table with all pairs of the labels of stratum i put in
  abbrev pub start : (ℕ → ℕ) → ℕ → Table → Table
  start σ i t = tabulate G.nodes S.labels (λ n l. shown t n l || eqb (σ l) i)

  abbrev pub solve : (ℕ → ℕ) → ℕ → Table
  solve σ zero = []
  solve σ (suc i) = let t = start σ (suc i) (solve σ i) in settle (suc (count G.nodes S.labels (shown t))) t

  module _ (σ : ℕ → ℕ) where
    -- what is known of the typing up to i: a table shows it, it is correct, and it has labels of strata up to i alone
    pub record Known (i : ℕ) : Type 0 where
      pub table : (n l : ℕ) → In (shown (solve σ i)) n l ↔ UpTo S G σ i n l
      pub correct : Correct S G (UpTo S G σ i)
      pub up_to : (n l : ℕ) → UpTo S G σ i n l → σ l ≤ i

    module _ (st : Stratification S σ) (i : ℕ) (k : Known i) where
      Next : Typing → Type 0
      Next τ = Candidate S G σ (UpTo S G σ i) (suc i) (In τ)

      -- a typing that has every candidate of stratum i + 1 in it
      record Above (x : Typing) : Type 0 where
        pub within : (n l : ℕ) → In x n l → (n < G.nodes) × (l < S.labels) × (σ l ≤ suc i)
        pub same : (n l : ℕ) → σ l < suc i → In x n l ↔ UpTo S G σ i n l
        pub contains : (τ : Typing) → Next τ → (n l : ℕ) → In τ n l → In x n l

      below_satisfied : (x : Typing) → Above x → (n l : ℕ) → UpTo S G σ i n l → Satisfied S G (In x) n l
      below_satisfied x v n l h =
          let w = (k.correct.within n l h).1 in
          satisfied_monotone S G (UpTo S G σ i) (In x) n l
          (λ o j m. (v.same o j (omega (arith, k.up_to n l h, st.refers l j (w, m)))).1)
          (λ o j m. (v.same o j (omega (arith, k.up_to n l h, st.negated l j (w, m)))).0)
          (k.correct.satisfied n l h)

      candidate_satisfied : (x : Typing) → Above x → (τ : Typing) → Next τ → (n l : ℕ) → In τ n l → Satisfied S G (In x) n l
      unfolding Next
      candidate_satisfied x v τ c n l h =
          satisfied_monotone S G (In τ) (In x) n l
          (λ o j m. v.contains τ c o j)
          (λ o j m y.
          let z : σ j < suc i = omega (arith, c.up_to n l h, st.negated l j ((c.correct.within n l h).1, m)) in
          (c.same o j z).1 ((v.same o j z).0 y))
          (c.correct.satisfied n l h)

      refine_is : (t : Table) → Above (shown t) → (n l : ℕ) → In (shown (refine t)) n l ↔ ((shown t n l ≡ true) × Satisfied S G (In (shown t)) n l)
      refine_is t v n l =
          let x = shown t in
          let d = Decides-and (x n l) (satisfied S G x n l) (decides_itself (x n l)) (decides_satisfied S G x n l) in (
            λ h. d.0 (shown_gives G.nodes S.labels (λ n l. x n l && satisfied S G x n l) n l h).2,
            λ h. let w = v.within n l h.0 in shown_from G.nodes S.labels (λ n l. x n l && satisfied S G x n l) n l w.0 w.1 (d.1 h),
          )

      refine_above : (t : Table) → Above (shown t) → Above (shown (refine t))
      refine_above t v =
          let is = refine_is t v in
          record {
            within = λ n l h. v.within n l ((is n l).0 h).0;
            same = λ n l z. (λ h. (v.same n l z).0 ((is n l).0 h).0, λ h. (is n l).1 ((v.same n l z).1 h, below_satisfied (shown t) v n l h));
            contains = λ τ c n l h. (is n l).1 (v.contains τ c n l h, candidate_satisfied (shown t) v τ c n l h);
          }

      Stable : Table → Type 0
      Stable t = (n l : ℕ) → In (shown t) n l → Satisfied S G (In (shown t)) n l

      decides_unstable : (t : Table)
          → Decides (unstable t) ((n : ℕ) × (n < G.nodes) × ((l : ℕ) × (l < S.labels) × ((shown t n l ≡ true) × (¬ Satisfied S G (In (shown t)) n l))))
      decides_unstable t =
          let x = shown t in
          decides_any (λ n. any (λ l. x n l && not (satisfied S G x n l)) S.labels) (λ n. (l : ℕ) × (l < S.labels) × ((x n l ≡ true) × (¬ Satisfied S G (In x) n l)))
          (λ n. decides_any (λ l. x n l && not (satisfied S G x n l)) (λ l. (x n l ≡ true) × (¬ Satisfied S G (In x) n l))
          (λ l. Decides-and (x n l) (not (satisfied S G x n l)) (decides_itself (x n l)) (Decides-not (satisfied S G x n l) (decides_satisfied S G x n l)))
          S.labels)
          G.nodes

      settle_above : (c : ℕ) (t : Table) → Above (shown t) → count G.nodes S.labels (shown t) < c → Above (shown (settle c t)) × Stable (settle c t)
      unfolding Stable
      settle_above zero t v h = absurd (omega arith)
      settle_above (suc c) t v h =
          cond_both (unstable t) (settle c (refine t)) t (λ r. Above (shown r) × Stable r)
          (λ e.
          let z = (decides_unstable t).0 e in
          let fewer =
          count_less G.nodes S.labels (shown t) (shown (refine t)) (λ n l y. ((refine_is t v n l).0 y).0) z.0 z.2.0 z.1 z.2.1 z.2.2.0
          (λ y. z.2.2.1 ((refine_is t v z.0 z.2.0).0 y).1) in
          settle_above c (refine t) (refine_above t v) (omega arith))
          (λ e. (v, stays e))
        where
          stays : unstable t ≡ false → (n l : ℕ) → In (shown t) n l → Satisfied S G (In (shown t)) n l
          stays e n l y = pick (answer (satisfied S G (shown t) n l) (decides_satisfied S G (shown t) n l))
            where
              pick : Dec (Satisfied S G (In (shown t)) n l) → Satisfied S G (In (shown t)) n l
              pick (yes s) = s
              pick (no s) = let w = v.within n l y in absurd (not_from_Decides (unstable t) (decides_unstable t) e (n, w.0, (l, w.1, (y, s))))

      start_above : Above (shown (start σ (suc i) (solve σ i)))
      unfolding Next
      start_above =
          record {
            within = λ n l h. bounds n l (gives n l h);
            same = λ n l z. (λ h. down n l z (gives n l h).2, λ h. from n l (k.correct.within n l h).0 (k.correct.within n l h).1 (inl h));
            contains = λ τ c n l h. from n l (c.correct.within n l h).0 (c.correct.within n l h).1 (new τ c n l h (dec_lt (σ l) (suc i)));
          }
        where
          f : Typing
          f n l = shown (solve σ i) n l || eqb (σ l) (suc i)

          is : (n l : ℕ) → Decides (f n l) (UpTo S G σ i n l ⊎ (σ l ≡ suc i))
          is n l = Decides-or (shown (solve σ i) n l) (eqb (σ l) (suc i)) (k.table n l) (Decides-eqb (σ l) (suc i))

          gives : (n l : ℕ) → In (shown (start σ (suc i) (solve σ i))) n l → (n < G.nodes) × (l < S.labels) × (UpTo S G σ i n l ⊎ (σ l ≡ suc i))
          gives n l h = let r = shown_gives G.nodes S.labels f n l h in (r.0, r.1, (is n l).0 r.2)

          from : (n l : ℕ) → n < G.nodes → l < S.labels → UpTo S G σ i n l ⊎ (σ l ≡ suc i) → In (shown (start σ (suc i) (solve σ i))) n l
          from n l h g y = shown_from G.nodes S.labels f n l h g ((is n l).1 y)

          low : (n l : ℕ) → UpTo S G σ i n l ⊎ (σ l ≡ suc i) → σ l ≤ suc i
          low n l (inl h) = omega (arith, k.up_to n l h)
          low n l (inr e) = omega arith

          bounds : (n l : ℕ) → (n < G.nodes) × (l < S.labels) × (UpTo S G σ i n l ⊎ (σ l ≡ suc i)) → (n < G.nodes) × (l < S.labels) × (σ l ≤ suc i)
          bounds n l h = (h.0, h.1, low n l h.2)

          down : (n l : ℕ) → σ l < suc i → UpTo S G σ i n l ⊎ (σ l ≡ suc i) → UpTo S G σ i n l
          down n l z (inl h) = h
          down n l z (inr e) = absurd (omega arith)

          new : (τ : Typing) → Candidate S G σ (UpTo S G σ i) (suc i) (In τ) → (n l : ℕ) → In τ n l → Dec (σ l < suc i) → UpTo S G σ i n l ⊎ (σ l ≡ suc i)
          new τ c n l h (yes z) = inl ((c.same n l z).0 h)
          new τ c n l h (no z) = inr (omega (arith, c.up_to n l h))

      -- the table is a candidate, and has every candidate in it
      pub greatest : Candidate S G σ (UpTo S G σ i) (suc i) (In (shown (solve σ (suc i))))
          × ((τ : Typing) → Candidate S G σ (UpTo S G σ i) (suc i) (In τ) → (n l : ℕ) → In τ n l → In (shown (solve σ (suc i))) n l)
      unfolding Next Stable
      greatest =
          let t = start σ (suc i) (solve σ i) in
          let r = settle_above (suc (count G.nodes S.labels (shown t))) t start_above (omega arith) in (
            record {
              correct = record { within = λ n l h. ((r.0.within n l h).0, (r.0.within n l h).1); satisfied = r.1 };
              up_to = λ n l h. (r.0.within n l h).2;
              same = r.0.same;
            },
            r.0.contains,
          )

    module _ (st : Stratification S σ) where
      pub known : (i : ℕ) → Known i
      unfolding UpTo
      known zero =
          record {
            table = λ n l. (λ h. false_is_not h, λ h. absurd h);
            correct = record { within = λ n l h. absurd h; satisfied = λ n l h. absurd h };
            up_to = λ n l h. absurd h;
          }
      known (suc i) =
          let g = greatest st i (known i) in
          let e : (n l : ℕ) → In (shown (solve σ (suc i))) n l ↔ UpTo S G σ (suc i) n l =
          λ n l. (λ h. (shown (solve σ (suc i)), g.0, h), λ h. g.1 h.0 h.1 n l h.2) in
          record {
            table = e;
            correct = correct_same (In (shown (solve σ (suc i)))) (UpTo S G σ (suc i)) e g.0.correct;
            up_to = λ n l h. h.1.up_to n l h.2;
          }
        where
          correct_same : (P R : Relation) → ((n l : ℕ) → P n l ↔ R n l) → Correct S G P → Correct S G R
          correct_same P R e c =
              record {
                within = λ n l h. c.within n l ((e n l).1 h);
                satisfied = λ n l h. satisfied_monotone S G P R n l (λ o j _. (e o j).0) (λ o j _. (e o j).1) (c.satisfied n l ((e n l).1 h));
              }

      -- the typing up to i + 1 is the typing up to i on the labels below
      pub keeps : (i n l : ℕ) → σ l < suc i → UpTo S G σ (suc i) n l ↔ UpTo S G σ i n l
      unfolding UpTo
      keeps i n l z =
          let g = greatest st i (known i) in
          (λ h. (h.1.same n l z).0 h.2, λ h. (shown (solve σ (suc i)), g.0, (g.0.same n l z).1 h))

      -- it is itself one of those that it is the union of
      pub candidate_itself : (i : ℕ) → Candidate S G σ (UpTo S G σ i) (suc i) (UpTo S G σ (suc i))
      candidate_itself i = let k = known (suc i) in record { correct = k.correct; up_to = k.up_to; same = λ n l. keeps i n l }

      -- and has every correct typing that agrees with it below
      pub has_candidates : (i : ℕ) (τ : Typing) → Candidate S G σ (UpTo S G σ (suc i)) (suc i) (In τ) → (n l : ℕ) → In τ n l → UpTo S G σ (suc i) n l
      unfolding UpTo
      has_candidates i τ c n l h =
          (τ, record { correct = c.correct; up_to = c.up_to; same = λ n l z. Iff.trans (c.same n l z) (keeps i n l z) }, h)

      pub up_to_decided : (i n l : ℕ) → Dec (UpTo S G σ i n l)
      up_to_decided i n l = answer (shown (solve σ i) n l) ((known i).table n l)

      -- on labels of strata up to i, the typing up to any later stratum is the typing up to i
      pub settled : (m i n l : ℕ) → i ≤ m → σ l ≤ i → UpTo S G σ m n l ↔ UpTo S G σ i n l
      settled m i n l h g =
          let e : (m - i) + i ≡ m = omega arith in
          subst (λ j. UpTo S G σ j n l ↔ UpTo S G σ i n l) e (by_steps (m - i))
        where
          by_steps : (d : ℕ) → UpTo S G σ (d + i) n l ↔ UpTo S G σ i n l
          by_steps zero = let e : i ≡ 0 + i = omega arith in subst (λ j. UpTo S G σ j n l ↔ UpTo S G σ i n l) e (λ x. x, λ x. x)
          by_steps (suc d) =
              let e : suc (d + i) ≡ suc d + i = omega arith in
              subst (λ j. UpTo S G σ j n l ↔ UpTo S G σ i n l) e (Iff.trans (keeps (d + i) n l (omega arith)) (by_steps d))

      -- pairs that are satisfied under themselves and the typing up to i + 1 together, and are not new on the labels below, are in that typing
      pub included : (i : ℕ) (x : Typing)
          → ((n l : ℕ) → In x n l → (n < G.nodes) × (l < S.labels) × (σ l ≤ suc i))
          → ((n l : ℕ) → In x n l → σ l < suc i → UpTo S G σ i n l)
          → ((n l : ℕ) → In x n l → Satisfied S G (λ o j. UpTo S G σ (suc i) o j ⊎ In x o j) n l)
          → (n l : ℕ) → In x n l → UpTo S G σ (suc i) n l
      unfolding UpTo
      included i x within low satisfied n l h = (τ, candidate, (is n l).1 (inr h))
        where
          k : Known (suc i)
          k = known (suc i)

          τ : Typing
          τ n l = shown (solve σ (suc i)) n l || x n l

          is : (n l : ℕ) → Decides (τ n l) (UpTo S G σ (suc i) n l ⊎ In x n l)
          is n l = Decides-or (shown (solve σ (suc i)) n l) (x n l) (k.table n l) (decides_itself (x n l))

          down : (n l : ℕ) → σ l < suc i → UpTo S G σ (suc i) n l ⊎ In x n l → UpTo S G σ i n l
          down n l z (inl u) = (keeps i n l z).0 u
          down n l z (inr h) = low n l h z

          bounds : (n l : ℕ) → UpTo S G σ (suc i) n l ⊎ In x n l → (n < G.nodes) × (l < S.labels) × (σ l ≤ suc i)
          bounds n l (inl u) = let w = k.correct.within n l u in (w.0, w.1, k.up_to n l u)
          bounds n l (inr h) = within n l h

          meets : (n l : ℕ) → UpTo S G σ (suc i) n l ⊎ In x n l → Satisfied S G (In τ) n l
          meets n l (inl u) =
              satisfied_monotone S G (UpTo S G σ (suc i)) (In τ) n l
              (λ o j m u. (is o j).1 (inl u))
              (λ o j m y.
              let z : σ j < suc i = omega (arith, k.up_to n l u, st.negated l j ((k.correct.within n l u).1, m)) in
              (keeps i o j z).1 (down o j z ((is o j).0 y)))
              (k.correct.satisfied n l u)
          meets n l (inr h) = satisfied_monotone S G (λ o j. UpTo S G σ (suc i) o j ⊎ In x o j) (In τ) n l (λ o j _. (is o j).1) (λ o j _. (is o j).0) (satisfied n l h)

          candidate : Candidate S G σ (UpTo S G σ i) (suc i) (In τ)
          candidate =
              record {
                correct = record { within = λ n l y. (let b = bounds n l ((is n l).0 y) in (b.0, b.1)); satisfied = λ n l y. meets n l ((is n l).0 y) };
                up_to = λ n l y. (bounds n l ((is n l).0 y)).2;
                same = λ n l z. (λ y. down n l z ((is n l).0 y), λ u. (is n l).1 (inl ((keeps i n l z).1 u)));
              }

      pub maximal_table : (n l : ℕ) → In (shown (solve σ 32)) n l ↔ Maximal S G σ n l
      unfolding Maximal
      maximal_table = (known 32).table

      pub maximal_correct : Correct S G (Maximal S G σ)
      unfolding Maximal
      maximal_correct = (known 32).correct

      pub maximal_decided : (n l : ℕ) → Dec (Maximal S G σ n l)
      maximal_decided n l = answer (shown (solve σ 32) n l) (maximal_table n l)

      -- the maximal typing is the typing up to i on labels of strata up to i
      pub maximal_settled : (i n l : ℕ) → i ≤ 32 → σ l ≤ i → Maximal S G σ n l ↔ UpTo S G σ i n l
      unfolding Maximal
      maximal_settled i n l = settled 32 i n l

      -- a candidate that has every candidate is the typing up to i + 1
      pub greatest_unique : (i : ℕ) (x : Typing) → Candidate S G σ (UpTo S G σ i) (suc i) (In x)
          → ((τ : Typing) → Candidate S G σ (UpTo S G σ i) (suc i) (In τ) → (n l : ℕ) → In τ n l → In x n l)
          → (n l : ℕ) → In x n l ↔ UpTo S G σ (suc i) n l
      unfolding UpTo
      greatest_unique i x c f n l = (λ h. (x, c, h), λ h. f h.0 h.1 n l h.2)

pub greatest_stands : Greatest
greatest_stands S G σ st i = (candidate_itself S G σ st i, has_candidates S G σ st i)

pub decided_stands : Decided
decided_stands S G σ st = (solve S G σ 32, maximal_table S G σ st)
