-- Numbers that are placed as the references ask are a stratification, and the other way round. Assumes nothing.
use Rattle.std.proofs.Common.{◌≡◌, ℕ, ◌<◌, ◌≤◌, List, length, get_or, arith}
use Rattle.std.proofs.lemmas.List.{get_or_past}
use Rattle.shapes.specs.Expr.{Schema}
use Rattle.shapes.specs.References.{Refers, Stratification}
use Rattle.references.specs.Drawn.{Drawn}
use Rattle.references.specs.Strata.{Placed}
use Rattle.labels.specs.declared.mentions.RowLabels.{RowLabels}
use Rattle.references.proofs.Found.{negates_mentions}

-- too few bytes: the first label that has none has no stratum
pub too_few : (S : Schema) (bytes : List ℕ) → length bytes < S.labels → Stratification S (λ l. get_or bytes l 0) → ⊥
too_few S bytes h st =
    let one : 1 ≤ get_or bytes (length bytes) 0 = st.from_one (length bytes) h in
    omega (arith, get_or_past bytes (length bytes) 0 (omega arith))

-- xs is one number for each label, the first of the bytes
module _ (S : Schema) (rs : List RowLabels) (d : Drawn S rs) (known : (l k : ℕ) → Refers S l k → k < S.labels)
    (xs bytes : List ℕ) (long : length xs ≡ S.labels) (same : (l : ℕ) → l < S.labels → get_or xs l 0 ≡ get_or bytes l 0) where
  pub placed_strata : ((l : ℕ) → l < length xs → Placed rs xs l) → Stratification S (λ l. get_or bytes l 0)
  placed_strata ok =
      record {
        from_one = λ l h. omega (arith, same l h, (ok l (omega arith)).0);
        to_most = λ l h. omega (arith, same l h, (ok l (omega arith)).1);
        refers = λ l k r.
            let i : l < S.labels = r.0 in
            let j : k < S.labels = known l k r in
            omega (arith, same l i, same k j, ((ok l (omega arith)).2 k (omega arith)).0 ((d.refers l k).1 r));
        negated = λ l k n.
            let i : l < S.labels = n.0 in
            let j : k < S.labels = known l k (n.0, negates_mentions (S.definition l) k n.1) in
            omega (arith, same l i, same k j, ((ok l (omega arith)).2 k (omega arith)).1 ((d.negated l k).1 n));
      }

  pub strata_placed : Stratification S (λ l. get_or bytes l 0) → (l : ℕ) → l < length xs → Placed rs xs l
  strata_placed st l h =
      let i : l < S.labels = omega arith in (
        omega (arith, same l i, st.from_one l i),
        omega (arith, same l i, st.to_most l i),
        λ k g.
            let j : k < S.labels = omega arith in (
              λ e. omega (arith, same l i, same k j, st.refers l k ((d.refers l k).0 e)),
              λ e. omega (arith, same l i, same k j, st.negated l k ((d.negated l k).0 e)),
            ),
      )
