-- Typings on the way to the maximal one, seen inside a set C of pairs and at one stratum i. Assumes nothing.
--     Covers .. x       x is the maximal typing on the labels below stratum i, and has all of it on those of stratum i
--     Stable .. x       each pair that x has at stratum i is satisfied under x
use Rattle.std.specs.Prelude.{◌≡◌, ℕ, ◌<◌, ◌↔◌}
use Rattle.shapes.specs.Expr.{Schema}
use Rattle.shapes.specs.Typing.{Graph, Typing, In, Satisfied, Maximal}

module _ (S : Schema) (G : Graph) (σ : ℕ → ℕ) (C : Typing) (i : ℕ) where
  pub record Covers (x : Typing) : Type 0 where
    pub below : (n l : ℕ) → In C n l → σ l < i → In x n l ↔ Maximal S G σ n l
    pub has : (n l : ℕ) → In C n l → σ l ≡ i → Maximal S G σ n l → In x n l

  abbrev pub Stable : Typing → Type 0
  Stable x = (n l : ℕ) → In C n l → σ l ≡ i → In x n l → Satisfied S G (In x) n l
