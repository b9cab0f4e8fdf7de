-- What the verdict on a pair of node and label rests on. Assumes nothing.
--     Takes, Admits         an ARC with the label k, whose set has the property p, stands in the expression
--     Leans S G n l o k     n has an arc to o that an ARC with the label k in the definition of l admits
--     Closed S G C          the set C has every pair that a pair of it leans on
--     Reached S G n l       the pairs that leaning leads to from (n, l), itself included
--     Reaches G s           the nodes from which triples lead to s, itself included
--     Agree G H n           the two graphs have the same tests at n, and the same arcs in any order
use Rattle.std.specs.Prelude.{◌≡◌, ℕ, Bool, true, ◌⊎◌}
use Rattle.shapes.specs.Expr.{Triple, empty, arc, each, some, times, Shape, value, hood, and, or, not, Schema}
use Rattle.shapes.specs.Lists.{Member, Permuted}
use Rattle.shapes.specs.Meaning.{Relation}
use Rattle.shapes.specs.Typing.{Graph}

module _ (sets : ℕ → ℕ → Bool) where
  abbrev pub Takes : Triple → ℕ → ℕ → Type 0
  Takes empty p k = ⊥
  Takes (arc s l) p k = (l ≡ k) × (sets s p ≡ true)
  Takes (each x y) p k = Takes x p k ⊎ Takes y p k
  Takes (some x y) p k = Takes x p k ⊎ Takes y p k
  Takes (times x least most) p k = Takes x p k

  abbrev pub Admits : Shape → ℕ → ℕ → Type 0
  Admits (value t) p k = ⊥
  Admits (hood e) p k = Takes e p k
  Admits (and a b) p k = Admits a p k ⊎ Admits b p k
  Admits (or a b) p k = Admits a p k ⊎ Admits b p k
  Admits (not a) p k = Admits a p k

module _ (S : Schema) (G : Graph) where
  abbrev pub Leans : ℕ → ℕ → ℕ → ℕ → Type 0
  Leans n l o k = (p : ℕ) × Member (p, o) (G.arcs n) × Admits S.sets (S.definition l) p k

  abbrev pub Closed : Relation → Type 0
  Closed C = (n l o k : ℕ) → C n l → Leans n l o k → C o k

  pub data Reached (n l : ℕ) : ℕ → ℕ → Type 0 where
    asked : Reached n l n l
    next : {o k q j : ℕ} → Reached n l o k → Leans o k q j → Reached n l q j

pub data Reaches (G : Graph) (s : ℕ) : ℕ → Type 0 where
  there : Reaches G s s
  along : {n p o : ℕ} → Member (p, o) (G.arcs n) → Reaches G s o → Reaches G s n

abbrev pub Agree : Graph → Graph → ℕ → Type 0
Agree G H n = ((t : ℕ) → G.passes n t ≡ H.passes n t) × Permuted (G.arcs n) (H.arcs n)
