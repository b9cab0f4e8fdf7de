-- The ARCs whose set has a property, and what they admit: two tests that agree. Assumes nothing.
use Rattle.std.proofs.Common.{◌≡◌, ℕ, Bool, true, false, ◌&&◌, ◌||◌, eqb, refl, ap₂}
use Rattle.shapes.specs.Expr.{Triple, empty, arc, each, some, times, Shape, value, hood, and, or, not}
use Rattle.shapes.proofs.Leaning.{takes, admits}
use Rattle.labels.specs.Mentions.{has_arc, mentions}

swapped : (a b : Bool) → (a && b) ≡ (b && a)
swapped true true = refl
swapped true false = refl
swapped false true = refl
swapped false false = refl

module _ (sets : ℕ → ℕ → Bool) (p k : ℕ) where
  arcs_take : (e : Triple) → has_arc (λ s. sets s p) e k ≡ takes sets e p k
  arcs_take empty = refl
  arcs_take (arc s l) = swapped (sets s p) (eqb l k)
  arcs_take (each x y) = ap₂ (λ a b. a || b) (arcs_take x) (arcs_take y)
  arcs_take (some x y) = ap₂ (λ a b. a || b) (arcs_take x) (arcs_take y)
  arcs_take (times x least most) = arcs_take x

  pub mentions_admit : (e : Shape) → mentions (λ s. sets s p) e k ≡ admits sets e p k
  mentions_admit (value t) = refl
  mentions_admit (hood e) = arcs_take e
  mentions_admit (and a b) = ap₂ (λ x y. x || y) (mentions_admit a) (mentions_admit b)
  mentions_admit (or a b) = ap₂ (λ x y. x || y) (mentions_admit a) (mentions_admit b)
  mentions_admit (not a) = mentions_admit a
