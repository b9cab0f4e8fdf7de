-- Sets of labels that show the references of a schema. Assumes nothing.
--     Drawn S rs     in rs the first set of l holds what l refers to, the second what it refers to under a NOT
use Rattle.std.specs.Prelude.{ℕ, List, Decides}
use Rattle.shapes.specs.Expr.{Schema}
use Rattle.shapes.specs.References.{Refers, Negated}
use Rattle.labels.specs.Rows.{mentioned_in, negated_in}
use Rattle.labels.specs.declared.mentions.RowLabels.{RowLabels}

pub record Drawn (S : Schema) (rs : List RowLabels) : Type 0 where
  pub refers : (l k : ℕ) → Decides (mentioned_in rs l k) (Refers S l k)
  pub negated : (l k : ℕ) → Decides (negated_in rs l k) (Negated S l k)
