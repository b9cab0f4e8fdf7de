-- Which label refers to which, and what a stratification is. Assumes nothing.
--     Refers S l k      an ARC with the label k stands in the definition of l
--     Negated S l k     and a NOT stands above such an ARC, on some way down from the definition
--     Path S k l        a way of references leads from k to l; k = l is such a way
--     NegatedCycle S    some negated reference lies on a cycle of references
--     Stratification    numbers 1 to 32 that do not rise along a reference, and fall along a negated one
use Rattle.std.specs.Prelude.{◌≡◌, ℕ, ◌<◌, ◌≤◌, ◌⊎◌}
use Rattle.shapes.specs.Expr.{Triple, empty, arc, each, some, times, Shape, value, hood, and, or, not, Schema}

-- an ARC with the label k stands in the triple expression
abbrev pub HasArc : Triple → ℕ → Type 0
HasArc empty k = ⊥
HasArc (arc s l) k = l ≡ k
HasArc (each x y) k = HasArc x k ⊎ HasArc y k
HasArc (some x y) k = HasArc x k ⊎ HasArc y k
HasArc (times x least most) k = HasArc x k

-- an ARC with the label k stands in the shape expression
abbrev pub Mentions : Shape → ℕ → Type 0
Mentions (value t) k = ⊥
Mentions (hood e) k = HasArc e k
Mentions (and a b) k = Mentions a k ⊎ Mentions b k
Mentions (or a b) k = Mentions a k ⊎ Mentions b k
Mentions (not a) k = Mentions a k

-- an ARC with the label k stands there below at least one NOT
abbrev pub Negates : Shape → ℕ → Type 0
Negates (value t) k = ⊥
Negates (hood e) k = ⊥
Negates (and a b) k = Negates a k ⊎ Negates b k
Negates (or a b) k = Negates a k ⊎ Negates b k
Negates (not a) k = Mentions a k

module _ (S : Schema) where
  abbrev pub Refers : ℕ → ℕ → Type 0
  Refers l k = (l < S.labels) × Mentions (S.definition l) k

  abbrev pub Negated : ℕ → ℕ → Type 0
  Negated l k = (l < S.labels) × Negates (S.definition l) k

  pub data Path : ℕ → ℕ → Type 0 where
    here : {l : ℕ} → Path l l
    step : {l j k : ℕ} → Refers l j → Path j k → Path l k

  -- the negated reference from l to k lies on a cycle
  abbrev pub OnCycle : ℕ → ℕ → Type 0
  OnCycle l k = Negated l k × Path k l

  abbrev pub NegatedCycle : Type 0
  NegatedCycle = (l k : ℕ) × OnCycle l k

  pub record Stratification (σ : ℕ → ℕ) : Type 0 where
    pub from_one : (l : ℕ) → l < S.labels → 1 ≤ σ l
    pub to_most : (l : ℕ) → l < S.labels → σ l ≤ 32
    pub refers : (l k : ℕ) → Refers l k → σ k ≤ σ l
    pub negated : (l k : ℕ) → Negated l k → σ k < σ l
