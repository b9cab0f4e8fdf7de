-- The maximal typing is the same under every two stratifications.
use Rattle.std.proofs.Common.{◌≡◌, ℕ, zero, suc, ◌+◌, ◌-◌, ◌<◌, ◌≤◌, ◌&&◌, eqb, ◌⊎◌, ◌↔◌, Decides, refl, inl, inr, arith}
use native.Mathlib.Decide.{dec_lt}
use Rattle.std.proofs.lemmas.Bool.Decides.{Decides-and, Decides-eqb}
use Rattle.shapes.specs.Expr.{Schema}
use Rattle.shapes.specs.References.{Stratification}
use Rattle.shapes.specs.Typing.{Graph, Typing, In, Satisfied, UpTo, Maximal}
use Rattle.shapes.specs.Tables.{shown}
use Rattle.shapes.specs.Claims.{StrataFree}
use Rattle.shapes.proofs.Satisfaction.{satisfied_monotone}
use Rattle.shapes.proofs.Greatest.{solve, maximal_table, maximal_correct, maximal_settled, included}

module _ (S : Schema) (G : Graph) (σ : ℕ → ℕ) (st : Stratification S σ) (ρ : ℕ → ℕ) (rt : Stratification S ρ) where
  -- from one typing into the other at the label l, if they agree on every label whose two strata are together lower
  half : (l : ℕ) → l < S.labels → ((o k : ℕ) → σ k + ρ k < σ l + ρ l → Maximal S G σ o k ↔ Maximal S G ρ o k)
      → (n : ℕ) → Maximal S G ρ n l → Maximal S G σ n l
  half l w ih n h =
      (maximal_settled S G σ st (suc i) n l top.1 (omega (arith, top.0))).1
      (included S G σ st i x (λ n k y. bounds n k ((is n k).0 y)) (λ n k y z. absurd (omega (arith, top.0, ((is n k).0 y).1.0))) (λ n k y. meets n k ((is n k).0 y)) n l
      ((is n l).1 (h, (refl, refl))))
    where
      i : ℕ
      i = σ l - 1

      top : (σ l ≡ suc i) × (suc i ≤ 32)
      top = (omega (arith, st.from_one l w), omega (arith, st.from_one l w, st.to_most l w))

      -- the pairs of the other typing whose label has both strata of l
      x : Typing
      x n k = shown (solve S G ρ 32) n k && (eqb (σ k) (σ l) && eqb (ρ k) (ρ l))

      is : (n k : ℕ) → Decides (x n k) (Maximal S G ρ n k × ((σ k ≡ σ l) × (ρ k ≡ ρ l)))
      is n k =
          Decides-and (shown (solve S G ρ 32) n k) (eqb (σ k) (σ l) && eqb (ρ k) (ρ l)) (maximal_table S G ρ rt n k)
          (Decides-and (eqb (σ k) (σ l)) (eqb (ρ k) (ρ l)) (Decides-eqb (σ k) (σ l)) (Decides-eqb (ρ k) (ρ l)))

      bounds : (n k : ℕ) → Maximal S G ρ n k × ((σ k ≡ σ l) × (ρ k ≡ ρ l)) → (n < G.nodes) × (k < S.labels) × (σ k ≤ suc i)
      bounds n k y = let b = (maximal_correct S G ρ rt).within n k y.0 in (b.0, b.1, omega (arith, y.1.0, top.0))

      up : (o j : ℕ) → σ j ≤ suc i → Maximal S G σ o j → UpTo S G σ (suc i) o j
      up o j z = (maximal_settled S G σ st (suc i) o j (omega (arith, top.1)) z).0

      -- what a label of these pairs refers to
      refers : (o j : ℕ) → σ j ≤ σ l → ρ j ≤ ρ l → Maximal S G ρ o j → UpTo S G σ (suc i) o j ⊎ In x o j
      refers o j a b h = pick (dec_lt (σ j) (σ l)) (dec_lt (ρ j) (ρ l))
        where
          pick : Dec (σ j < σ l) → Dec (ρ j < ρ l) → UpTo S G σ (suc i) o j ⊎ In x o j
          pick (yes p) q = inl (up o j (omega (arith, top.0)) ((ih o j (omega arith)).1 h))
          pick (no p) (yes q) = inl (up o j (omega (arith, top.0)) ((ih o j (omega arith)).1 h))
          pick (no p) (no q) = inr ((is o j).1 (h, (omega arith, omega arith)))

      negated : (o j : ℕ) → σ j < σ l → ρ j < ρ l → UpTo S G σ (suc i) o j ⊎ In x o j → Maximal S G ρ o j
      negated o j a b (inl u) = (ih o j (omega arith)).0 ((maximal_settled S G σ st (suc i) o j (omega (arith, top.1)) (omega (arith, top.0))).1 u)
      negated o j a b (inr y) = absurd (omega (arith, ((is o j).0 y).1.0))

      meets : (n k : ℕ) → Maximal S G ρ n k × ((σ k ≡ σ l) × (ρ k ≡ ρ l)) → Satisfied S G (λ o j. UpTo S G σ (suc i) o j ⊎ In x o j) n k
      meets n k y =
          let v = ((maximal_correct S G ρ rt).within n k y.0).1 in
          satisfied_monotone S G (Maximal S G ρ) (λ o j. UpTo S G σ (suc i) o j ⊎ In x o j) n k
          (λ o j m. refers o j (omega (arith, st.refers k j (v, m), y.1.0)) (omega (arith, rt.refers k j (v, m), y.1.1)))
          (λ o j m. negated o j (omega (arith, st.negated k j (v, m), y.1.0)) (omega (arith, rt.negated k j (v, m), y.1.1)))
          ((maximal_correct S G ρ rt).satisfied n k y.0)

pub strata_free : StrataFree
strata_free S G σ ρ st rt n l = below (suc (σ l + ρ l)) n l (omega arith)
  where
    below : (s n l : ℕ) → σ l + ρ l < s → Maximal S G σ n l ↔ Maximal S G ρ n l
    below zero n l h = absurd (omega arith)
    below (suc s) n l h = (
      λ x. half S G ρ rt σ st l ((maximal_correct S G σ st).within n l x).1 (λ o k z. let y = below s o k (omega arith) in (y.1, y.0)) n x,
      λ x. half S G σ st ρ rt l ((maximal_correct S G ρ rt).within n l x).1 (λ o k z. below s o k (omega arith)) n x,
    )
