-- The sets of the labels' definitions show the references. Assumes nothing.
use Rattle.std.proofs.Common.{◌≡◌, ℕ, ◌&&◌, ltb, List, refl}
use Rattle.shapes.specs.Expr.{Schema}
use Rattle.labels.specs.Rows.{mentioned_in, negated_in}
use Rattle.labels.specs.declared.mentions.RowLabels.{RowLabels}
use Rattle.references.specs.Drawn.{Drawn}
use Rattle.references.specs.Mentions.{mentions, negates}
use Rattle.references.proofs.Decided.{decides_mentions, decides_negates, decides_below}

pub drawn : (S : Schema) (rs : List RowLabels)
    → ((l k : ℕ) → mentioned_in rs l k ≡ (ltb l S.labels && mentions (S.definition l) k))
    → ((l k : ℕ) → negated_in rs l k ≡ (ltb l S.labels && negates (S.definition l) k))
    → Drawn S rs
drawn S rs m n =
    record {
      refers = λ l k. decides_below _ _ _ l S.labels _ (m l k) (λ h. refl) (decides_mentions (S.definition l) k);
      negated = λ l k. decides_below _ _ _ l S.labels _ (n l k) (λ h. refl) (decides_negates (S.definition l) k);
    }
