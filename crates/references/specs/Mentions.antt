-- Which labels stand in a shape expression, as tests. Assumes nothing.
--     mentions e k     an ARC with the label k stands in e
--     negates e k      such an ARC stands below at least one NOT
use Rattle.std.specs.Prelude.{ℕ, Bool, true}
use Rattle.shapes.specs.Expr.{Shape}
use Rattle.labels.specs.Mentions.{mentions as mentions_with, negates as negates_with}

-- every ARC counts, whatever its property set
abbrev pub mentions : Shape → ℕ → Bool
mentions = mentions_with (λ s. true)

abbrev pub negates : Shape → ℕ → Bool
negates = negates_with (λ s. true)
