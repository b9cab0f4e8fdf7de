-- Graphs, correct typings, and the maximal typing of a stratified schema. Assumes nothing.
--     Graph                 the nodes with their arcs and what tests hold; every number below nodes is a node
--     Typing, In            a set of pairs of a node and a label, and what it has
--     Satisfied S G P n l   the node n satisfies the definition of l, where P says which node has which label
--     Correct S G P         each pair of P is a node that satisfies its label's definition under P
--     Candidate ..          a correct typing with labels of strata up to i, equal to the one below on the labels below
--     UpTo S G σ i          the typing up to stratum i: the union of all its candidates; up to 0 it is empty
--     Maximal S G σ         the typing up to the last stratum, 32
use Rattle.std.specs.Prelude.{◌≡◌, ℕ, zero, suc, ◌<◌, ◌≤◌, Bool, true, ◌↔◌}
use Rattle.shapes.specs.Expr.{Schema}
use Rattle.shapes.specs.Meaning.{Arcs, Relation, Satisfies}

-- passes n t says whether the test t holds at the node n
pub record Graph : Type 0 where
  pub nodes : ℕ
  pub arcs : ℕ → Arcs
  pub passes : ℕ → ℕ → Bool

abbrev pub Typing : Type 0
Typing = ℕ → ℕ → Bool

abbrev pub In : Typing → Relation
In τ n l = τ n l ≡ true

module _ (S : Schema) (G : Graph) where
  abbrev pub Satisfied : Relation → ℕ → ℕ → Type 0
  Satisfied P n l = Satisfies S.sets P (G.passes n) (G.arcs n) (S.definition l)

  pub record Correct (P : Relation) : Type 0 where
    pub within : (n l : ℕ) → P n l → (n < G.nodes) × (l < S.labels)
    pub satisfied : (n l : ℕ) → P n l → Satisfied P n l

  -- σ l is the stratum of the label l
  module _ (σ : ℕ → ℕ) where
    pub record Candidate (below : Relation) (i : ℕ) (P : Relation) : Type 0 where
      pub correct : Correct P
      pub up_to : (n l : ℕ) → P n l → σ l ≤ i
      pub same : (n l : ℕ) → σ l < i → P n l ↔ below n l

    unfoldable pub UpTo : ℕ → Relation
    UpTo zero n l = ⊥
    UpTo (suc i) n l = (τ : Typing) × Candidate (UpTo i) (suc i) (In τ) × In τ n l

    unfoldable pub Maximal : Relation
    Maximal = UpTo 32
