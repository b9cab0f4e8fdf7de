-- A stratification that is copied to the front of a buffer. Assumes nothing.
use Rattle.std.proofs.Common.{◌≡◌, ℕ, ◌<◌, ◌≤◌, List, ◌++◌, length, get_or, take, ap, ◌∙◌, arith, length-take-le, get_or-take}
use lib.ListN.{get_or-append}
use Rattle.shapes.specs.Expr.{Schema}
use Rattle.shapes.specs.References.{Refers, Stratification}
use Rattle.references.proofs.Found.{negates_mentions}

-- numbers that agree at the labels
same_strata : (S : Schema) → ((l k : ℕ) → Refers S l k → k < S.labels) → (σ τ : ℕ → ℕ) → ((l : ℕ) → l < S.labels → τ l ≡ σ l)
    → Stratification S σ → Stratification S τ
same_strata S known σ τ e st =
    record {
      from_one = λ l h. omega (arith, e l h, st.from_one l h);
      to_most = λ l h. omega (arith, e l h, st.to_most l h);
      refers = λ l k r. omega (arith, e l r.0, e k (known l k r), st.refers l k r);
      negated = λ l k n.
          omega (arith, e l n.0, e k (known l k (n.0, negates_mentions (S.definition l) k n.1)), st.negated l k n);
    }

pub written_strata : (S : Schema) → ((l k : ℕ) → Refers S l k → k < S.labels) → (n : ℕ) (ranks ys rest : List ℕ)
    → n ≡ S.labels → n ≤ length ranks → ys ≡ take n ranks
    → Stratification S (λ l. get_or ranks l 0) → Stratification S (λ l. get_or (ys ++ rest) l 0)
written_strata S known n ranks ys rest e h c st =
    same_strata S known (λ l. get_or ranks l 0) (λ l. get_or (ys ++ rest) l 0)
    (λ l i.
    let long : length ys ≡ n = ap length c ∙ length-take-le n ranks h in
    get_or-append ys rest 0 l (omega arith) ∙ ap (λ zs. get_or zs l 0) c ∙ get_or-take n ranks l 0 (omega arith))
    st
