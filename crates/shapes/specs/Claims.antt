-- What is proved of the definitions. Assumes nothing.
--     Greatest       the typing up to a stratum is correct, and has every correct typing that agrees with it below
--     StrataFree     the maximal typing is the same for every two stratifications
--     Decided        a table shows the maximal typing
--     Local          graphs that agree on a set of pairs closed under leaning have the same verdicts there
--     OrderFree      the order of the arcs does not matter
--     ReachedOnly    a verdict rests on the nodes of the pairs reached by leaning alone
--     EditLocal      a change at s leaves the verdicts of every node that does not reach s
--     Refined        inside such a set, what covers the typing may lose each pair that is not satisfied; where none is left, it is the typing
--     Stratifiable   a lawful schema has a stratification exactly if no negated reference lies on a cycle
use Rattle.std.specs.Prelude.{◌≡◌, ℕ, suc, ◌<◌, ◌↔◌}
use Rattle.shapes.specs.Expr.{Schema}
use Rattle.shapes.specs.References.{NegatedCycle, Stratification}
use Rattle.shapes.specs.Lawful.{Lawful}
use Rattle.shapes.specs.Typing.{Graph, Typing, In, Satisfied, Candidate, UpTo, Maximal}
use Rattle.shapes.specs.Tables.{Table, shown}
use Rattle.shapes.specs.Leaning.{Closed, Reached, Reaches, Agree}
use Rattle.shapes.specs.Refining.{Covers, Stable}

abbrev pub Greatest : Type 0
Greatest =
    (S : Schema) (G : Graph) (σ : ℕ → ℕ) → Stratification S σ → (i : ℕ)
    → Candidate S G σ (UpTo S G σ i) (suc i) (UpTo S G σ (suc i))
    × ((τ : Typing) → Candidate S G σ (UpTo S G σ (suc i)) (suc i) (In τ) → (n l : ℕ) → In τ n l → UpTo S G σ (suc i) n l)

abbrev pub StrataFree : Type 0
StrataFree = (S : Schema) (G : Graph) (σ ρ : ℕ → ℕ) → Stratification S σ → Stratification S ρ → (n l : ℕ) → Maximal S G σ n l ↔ Maximal S G ρ n l

abbrev pub Decided : Type 0
Decided = (S : Schema) (G : Graph) (σ : ℕ → ℕ) → Stratification S σ → (t : Table) × ((n l : ℕ) → In (shown t) n l ↔ Maximal S G σ n l)

abbrev pub Local : Type 0
Local =
    (S : Schema) (σ : ℕ → ℕ) → Stratification S σ → (G H : Graph) → G.nodes ≡ H.nodes
    → (C : Typing) → Closed S G (In C) → ((n l : ℕ) → In C n l → Agree G H n)
    → (n l : ℕ) → In C n l → Maximal S G σ n l ↔ Maximal S H σ n l

abbrev pub OrderFree : Type 0
OrderFree =
    (S : Schema) (σ : ℕ → ℕ) → Stratification S σ → (G H : Graph) → G.nodes ≡ H.nodes
    → ((n : ℕ) → Agree G H n) → (n l : ℕ) → Maximal S G σ n l ↔ Maximal S H σ n l

abbrev pub ReachedOnly : Type 0
ReachedOnly =
    (S : Schema) (σ : ℕ → ℕ) → Stratification S σ → (G H : Graph) → G.nodes ≡ H.nodes
    → (n l : ℕ) → ((o k : ℕ) → Reached S G n l o k → Agree G H o) → Maximal S G σ n l ↔ Maximal S H σ n l

abbrev pub EditLocal : Type 0
EditLocal =
    (S : Schema) (σ : ℕ → ℕ) → Stratification S σ → (G H : Graph) → G.nodes ≡ H.nodes
    → (s : ℕ) → ((n : ℕ) → ¬ (n ≡ s) → Agree G H n) → (n l : ℕ) → ¬ Reaches G s n → Maximal S G σ n l ↔ Maximal S H σ n l

abbrev pub Refined : Type 0
Refined =
    (S : Schema) (G : Graph) (σ : ℕ → ℕ) → Stratification S σ
    → (C : Typing) → Closed S G (In C) → ((n l : ℕ) → In C n l → (n < G.nodes) × (l < S.labels))
    → (i : ℕ) (x : Typing) → Covers S G σ C i x
    → ((n l : ℕ) → In C n l → σ l ≡ i → Maximal S G σ n l → Satisfied S G (In x) n l)
    × (Stable S G σ C i x → (n l : ℕ) → In C n l → σ l ≡ i → In x n l ↔ Maximal S G σ n l)

abbrev pub Stratifiable : Type 0
Stratifiable = (S : Schema) → Lawful S → ((σ : ℕ → ℕ) × Stratification S σ) ↔ (¬ NegatedCycle S)
