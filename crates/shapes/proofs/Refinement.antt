-- Refinement inside a set of pairs that is closed under leaning.
use Rattle.std.proofs.Common.{◌≡◌, ℕ, suc, ◌-◌, ◌<◌, ◌≤◌, true, ◌&&◌, eqb, ltb, ◌⊎◌, ◌↔◌, Decides, subst, inl, inr, arith}
use mathlib.Core.Logic.Iff
use native.Mathlib.Decide.{dec_lt}
use Rattle.std.proofs.lemmas.Bool.Decides.{Decides-and, Decides-eqb, Decides-ltb}
use Rattle.shapes.specs.Expr.{Schema}
use Rattle.shapes.specs.References.{Stratification}
use Rattle.shapes.specs.Lawful.{Lawful}
use Rattle.shapes.specs.Lists.{Member}
use Rattle.shapes.specs.Typing.{Graph, Typing, In, Satisfied, UpTo, Maximal}
use Rattle.shapes.specs.Leaning.{Closed}
use Rattle.shapes.specs.Refining.{Covers, Stable}
use Rattle.shapes.specs.Claims.{Refined}
use Rattle.shapes.proofs.Satisfaction.{satisfies_local, mentions_from_admits}
use Rattle.shapes.proofs.Decide.{decides_itself}
use Rattle.shapes.proofs.Leaning.{bounded_closed}
use Rattle.shapes.proofs.Greatest.{maximal_correct, maximal_settled, included}

module _ (S : Schema) (G : Graph) (σ : ℕ → ℕ) (st : Stratification S σ) (C : Typing) (closed : Closed S G (In C))
    (within : (n l : ℕ) → In C n l → (n < G.nodes) × (l < S.labels)) (i : ℕ) (x : Typing) (v : Covers S G σ C i x) where
  -- what is in the typing is satisfied under x
  pub maximal_satisfied : (n l : ℕ) → In C n l → σ l ≡ i → Maximal S G σ n l → Satisfied S G (In x) n l
  maximal_satisfied n l c e h =
      satisfies_local S.sets (Maximal S G σ) (In x) (G.passes n) (G.arcs n) (S.definition l)
      (λ p o m k a. at o k (closed n l o k c (p, m, a)) (omega (arith, st.refers l k ((within n l c).1, mentions_from_admits S.sets (S.definition l) p k a))) (dec_lt (σ k) i))
      (λ p o m k a g. (v.below o k (closed n l o k c (p, m, a)) (omega (arith, st.negated l k ((within n l c).1, g)))).0)
      ((maximal_correct S G σ st).satisfied n l h)
    where
      at : (o k : ℕ) → In C o k → σ k ≤ i → Dec (σ k < i) → Maximal S G σ o k → In x o k
      at o k c z (yes g) = (v.below o k c g).1
      at o k c z (no g) = v.has o k c (omega arith)

  -- and where all that x has at stratum i is satisfied, it is in the typing
  pub satisfied_maximal : Stable S G σ C i x → (n l : ℕ) → In C n l → σ l ≡ i → In x n l → Maximal S G σ n l
  satisfied_maximal stable n l c e h =
      (maximal_settled S G σ st i n l top (omega arith)).1
      (subst (λ j. UpTo S G σ j n l) is_suc
      (included S G σ st (i - 1) y (λ n k z. bounds n k ((is n k).0 z)) (λ n k z w. absurd (omega (arith, is_suc, ((is n k).0 z).1))) (λ n k z. meets n k ((is n k).0 z)) n l
      ((is n l).1 ((h, c), e))))
    where
      top : i ≤ 32
      top = omega (arith, st.to_most l (within n l c).1)

      is_suc : suc (i - 1) ≡ i
      is_suc = omega (arith, st.from_one l (within n l c).1)

      y : Typing
      y n k = (x n k && C n k) && eqb (σ k) i

      is : (n k : ℕ) → Decides (y n k) (((x n k ≡ true) × (C n k ≡ true)) × (σ k ≡ i))
      is n k = Decides-and (x n k && C n k) (eqb (σ k) i) (Decides-and (x n k) (C n k) (decides_itself (x n k)) (decides_itself (C n k))) (Decides-eqb (σ k) i)

      bounds : (n k : ℕ) → ((x n k ≡ true) × (C n k ≡ true)) × (σ k ≡ i) → (n < G.nodes) × (k < S.labels) × (σ k ≤ suc (i - 1))
      bounds n k z = let w = within n k z.0.1 in (w.0, w.1, omega (arith, is_suc, z.1))

      up : (o k : ℕ) → σ k ≤ i → Maximal S G σ o k ↔ UpTo S G σ (suc (i - 1)) o k
      up o k z = maximal_settled S G σ st (suc (i - 1)) o k (omega (arith, is_suc, top)) (omega (arith, is_suc))

      refers : (o k : ℕ) → In C o k → σ k ≤ i → Dec (σ k < i) → In x o k → UpTo S G σ (suc (i - 1)) o k ⊎ In y o k
      refers o k c z (yes g) h = inl ((up o k z).0 ((v.below o k c g).0 h))
      refers o k c z (no g) h = inr ((is o k).1 ((h, c), omega arith))

      negated : (o k : ℕ) → In C o k → σ k < i → UpTo S G σ (suc (i - 1)) o k ⊎ In y o k → In x o k
      negated o k c z (inl u) = (v.below o k c z).1 ((up o k (omega arith)).1 u)
      negated o k c z (inr w) = ((is o k).0 w).0.0

      meets : (n k : ℕ) → ((x n k ≡ true) × (C n k ≡ true)) × (σ k ≡ i) → Satisfied S G (λ o j. UpTo S G σ (suc (i - 1)) o j ⊎ In y o j) n k
      meets n k ((h, c), e) =
          satisfies_local S.sets (In x) (λ o j. UpTo S G σ (suc (i - 1)) o j ⊎ In y o j) (G.passes n) (G.arcs n) (S.definition k)
          (λ p o m j a.
          refers o j (closed n k o j c (p, m, a)) (omega (arith, st.refers k j ((within n k c).1, mentions_from_admits S.sets (S.definition k) p j a))) (dec_lt (σ j) i))
          (λ p o m j a g. negated o j (closed n k o j c (p, m, a)) (omega (arith, st.negated k j ((within n k c).1, g))))
          (stable n k c e h)

  -- x may lose any pair of stratum i that is not satisfied
  pub covers_less : (y : Typing) → ((n l : ℕ) → In C n l → σ l < i → In y n l ↔ In x n l)
      → ((n l : ℕ) → In C n l → σ l ≡ i → In x n l → Satisfied S G (In x) n l → In y n l) → Covers S G σ C i y
  covers_less y same kept =
      record {
        below = λ n l c z. Iff.trans (same n l c z) (v.below n l c z);
        has = λ n l c e h. kept n l c e (v.has n l c e h) (maximal_satisfied n l c e h);
      }

  -- and where it cannot, the next stratum is due
  pub covers_next : Stable S G σ C i x → ((n l : ℕ) → In C n l → σ l ≡ suc i → Maximal S G σ n l → In x n l) → Covers S G σ C (suc i) x
  covers_next stable has = record { below = λ n l c z. at n l c z (dec_lt (σ l) i); has = has }
    where
      at : (n l : ℕ) → In C n l → σ l < suc i → Dec (σ l < i) → In x n l ↔ Maximal S G σ n l
      at n l c z (yes g) = v.below n l c g
      at n l c z (no g) = let e : σ l ≡ i = omega arith in (satisfied_maximal stable n l c e, v.has n l c e)

module _ (S : Schema) (G : Graph) where
  -- all pairs of a node and a label, which are closed under leaning
  abbrev pub all_pairs : Typing
  all_pairs n l = ltb n G.nodes && ltb l S.labels

  pub decides_all_pairs : (n l : ℕ) → Decides (all_pairs n l) ((n < G.nodes) × (l < S.labels))
  decides_all_pairs n l = Decides-and (ltb n G.nodes) (ltb l S.labels) (Decides-ltb n G.nodes) (Decides-ltb l S.labels)

  pub all_pairs_closed : Lawful S → ((n p o : ℕ) → n < G.nodes → Member (p, o) (G.arcs n) → o < G.nodes) → Closed S G (In all_pairs)
  all_pairs_closed ok objects n l o k c h = (decides_all_pairs o k).1 (bounded_closed S G ok objects n l o k ((decides_all_pairs n l).0 c) h)

pub refined : Refined
refined S G σ st C closed within i x v =
    (maximal_satisfied S G σ st C closed within i x v, λ stable n l c e. (satisfied_maximal S G σ st C closed within i x v stable n l c e, v.has n l c e))
