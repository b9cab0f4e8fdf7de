-- Refusals as a caller sees them. Assumes nothing.
--     Refusal        the layer where the refusal arose, with its number
--     or_else a b    a, or b where a is nothing
--     first rules    of a list of rules, each a test with what it refuses by, the first whose test holds; nothing where none does
use Rattle.std.specs.Prelude.{ℕ, Bool, cond, List, [], ◌∷◌, Some, None, Option}
use Rattle.refusal.specs.declared.Layer.{Layer}

abbrev pub Refusal : Type 0
Refusal = Layer × ℕ

abbrev pub first : {A : Type 0} → List (Bool × A) → Option A
first [] = None
first (rule ∷ rules) = cond rule.0 (Some rule.1) (first rules)

abbrev pub or_else : {A : Type 0} → Option A → Option A → Option A
or_else (Some a) b = Some a
or_else None b = b
