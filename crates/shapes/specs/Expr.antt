-- Triple expressions and shape expressions, as trees. Assumes nothing.
--     Triple    says which sets of arcs meet it
--     Shape     says which nodes satisfy it
--     Schema    the labels, the property sets and each label's definition
use Rattle.std.specs.Prelude.{ℕ, Bool, Option}

-- EMPTY, ARC(property set, label), EACH, SOME, TIMES(expression, least, most); no most is unbounded
pub data Triple : Type 0 where
  empty : Triple
  arc : ℕ → ℕ → Triple
  each : Triple → Triple → Triple
  some : Triple → Triple → Triple
  times : Triple → ℕ → Option ℕ → Triple

-- VALUE(test), HOOD(triple expression), AND, OR, NOT
pub data Shape : Type 0 where
  value : ℕ → Shape
  hood : Triple → Shape
  and : Shape → Shape → Shape
  or : Shape → Shape → Shape
  not : Shape → Shape

-- labels are numbered from 0; sets s p says whether the property p is in the set s
pub record Schema : Type 0 where
  pub labels : ℕ
  pub sets : ℕ → ℕ → Bool
  pub definition : ℕ → Shape
