-- What every accepted schema has. Assumes nothing.
--     Lawful S      at most 32 labels, and each label that is referred to is one of them
use Rattle.std.specs.Prelude.{ℕ, ◌<◌, ◌≤◌}
use Rattle.shapes.specs.Expr.{Schema}
use Rattle.shapes.specs.References.{Refers}

pub record Lawful (S : Schema) : Type 0 where
  pub few : S.labels ≤ 32
  pub known : (l k : ℕ) → Refers S l k → k < S.labels
