-- A search that marks pairs of node and label. Assumes nothing.
--     Looked ..                what is marked is reached from (n, l) and not held; where the held pairs are closed, what is reached is marked or held
--     unmarked n marks         how many of the first n marks are not 1
--     Marked τ g               the typing τ has the pair g
--     count p                  how many pairs of these nodes and labels there are
--     Shown p bytes g          the byte of the pair g is 1
use Rattle.std.specs.Prelude.{◌≡◌, ℕ, ◌*◌, true, not, ◌⊎◌, List, take, count_by, ◌==◌}
use Rattle.shapes.specs.Bytes.{byte_typing}
use Rattle.shapes.specs.Expr.{Schema}
use Rattle.shapes.specs.Leaning.{Closed, Reached}
use Rattle.shapes.specs.Typing.{Graph, Typing, In}
use Rattle.stack.specs.declared.Goal.{Goal}
use Rattle.leaning.specs.declared.pairs.Pairs.{Pairs}

abbrev pub unmarked : ℕ → List ℕ → ℕ
unmarked n marks = count_by (λ b. not (b == 1)) (take n marks)

abbrev pub Marked : Typing → Goal → Type 0
Marked τ g = τ g.node g.label ≡ true

abbrev pub count : Pairs → ℕ
count p = p.nodes * p.labels

abbrev pub Shown : Pairs → List ℕ → Goal → Type 0
Shown p bytes g = Marked (byte_typing p.nodes p.labels bytes) g

pub record Looked (S : Schema) (G : Graph) (held : Typing) (n l : ℕ) (marks : Typing) : Type 0 where
  pub reached : (o k : ℕ) → In marks o k → Reached S G n l o k × (¬ In held o k)
  pub all : Closed S G (In held) → (o k : ℕ) → Reached S G n l o k → In marks o k ⊎ In held o k
