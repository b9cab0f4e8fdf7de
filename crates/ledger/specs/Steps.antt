-- What each call does to the ledger, and what it answers. Assumes nothing.
--     Edited b s b'      the verdicts of every node that reaches s by triples are dropped, and no other
--     AddStep, WithdrawStep, LookStep, HeldStep, SweepStep
--                        the answer to a call, and the ledger after it; a refusal changes nothing
--     ones table         how many bytes are 1
use Rattle.std.specs.Prelude.{◌≡◌, ℕ, ◌+◌, ◌*◌, ◌<◌, ◌≤◌, Bool, true, false, cond, ◌⊎◌, ◌↔◌, List, [], ◌∷◌, length, take, Some, None, Ok, Err, Decides, Option, Result, ◌==◌, slice_index}
use Rattle.refusal.specs.declared.Layer.TheVariants.{Validator}
use Rattle.refusal.specs.Refusals.{Refusal}
use Rattle.triple.specs.Arcs.{distinct}
use Rattle.triple.specs.Stores.{Added, Removed}
use Rattle.shapes.specs.Expr.{Schema}
use Rattle.shapes.specs.References.{Stratification}
use Rattle.shapes.specs.Typing.{In}
use Rattle.shapes.specs.Bytes.{place}
use Rattle.shapes.specs.Leaning.{Reached, Reaches}
use Rattle.ledger.specs.Ledger.{Ledger, graph, Verdict, add_refusal, withdraw_refusal, pair_refusal}

-- what no call changes
pub record Fixed (b b' : Ledger) : Type 0 where
  pub nodes : b'.nodes ≡ b.nodes
  pub capacity : b'.capacity ≡ b.capacity
  pub literals : b'.literals ≡ b.literals
  pub passes : b'.passes ≡ b.passes

pub record Edited (b : Ledger) (s : ℕ) (b' : Ledger) : Type 0 where
  pub fixed : Fixed b b'
  pub apart : (n : ℕ) → distinct (b'.arcs n) ≡ true
  pub dropped : (n l : ℕ) → In b'.held n l ↔ (In b.held n l × ¬ Reaches (graph b) s n)

pub data AddStep (b : Ledger) (s p o : ℕ) : Result (Unit {0}) Refusal → Ledger → Type 0 where
  refused : {e : Refusal} → add_refusal b s p o ≡ Some e → AddStep b s p o (Err e) b
  accepted : {b' : Ledger} → add_refusal b s p o ≡ None → Added b.arcs s p o b'.arcs → Edited b s b' → AddStep b s p o (Ok tt) b'

pub data WithdrawStep (b : Ledger) (s p o : ℕ) : Result (Unit {0}) Refusal → Ledger → Type 0 where
  refused : {e : Refusal} → withdraw_refusal b s p o ≡ Some e → WithdrawStep b s p o (Err e) b
  accepted : {b' : Ledger} → withdraw_refusal b s p o ≡ None → Removed b.arcs s p o b'.arcs → Edited b s b' → WithdrawStep b s p o (Ok tt) b'

abbrev pub ones : List ℕ → ℕ
ones [] = 0
ones (x ∷ xs) = cond (x == 1) 1 0 + ones xs

-- the schema, and the stratification that the ledger goes by
module _ (S : Schema) (σ : ℕ → ℕ) where
  -- the triples are as they were, and the pairs that a look reaches are held beside those that were
  pub record Looked (b : Ledger) (n l : ℕ) (b' : Ledger) : Type 0 where
    pub fixed : Fixed b b'
    pub arcs : b'.arcs ≡ b.arcs
    pub held : (o k : ℕ) → In b'.held o k ↔ (In b.held o k ⊎ Reached S (graph b) n l o k)

  pub data LookStep (b : Ledger) (n l : ℕ) : Result Bool Refusal → Ledger → Type 0 where
    refused : {e : Refusal} → pair_refusal S b n l ≡ Some e → LookStep b n l (Err e) b
    looked : {yes : Bool} {b' : Ledger} → pair_refusal S b n l ≡ None → Decides yes (Verdict S σ b n l) → Looked b n l b' → LookStep b n l (Ok yes) b'

  pub data HeldStep (b : Ledger) (n l : ℕ) : Result (Option Bool) Refusal → Type 0 where
    refused : {e : Refusal} → pair_refusal S b n l ≡ Some e → HeldStep b n l (Err e)
    not_held : pair_refusal S b n l ≡ None → b.held n l ≡ false → HeldStep b n l (Ok None)
    held : {yes : Bool} → pair_refusal S b n l ≡ None → b.held n l ≡ true → Decides yes (Verdict S σ b n l) → HeldStep b n l (Ok (Some yes))

  -- the byte of a pair is 1 if the typing has it, else 0; later bytes stay
  pub record Shows (b : Ledger) (table table' : List ℕ) : Type 0 where
    pub kept : length table' ≡ length table
    pub pairs : (n l : ℕ) → n < b.nodes → l < S.labels
        → ((slice_index table' (place S.labels n l) ≡ 1) × Verdict S σ b n l) ⊎ ((slice_index table' (place S.labels n l) ≡ 0) × ¬ Verdict S σ b n l)
    pub later : (k : ℕ) → b.nodes * S.labels ≤ k → slice_index table' k ≡ slice_index table k

  -- the triples are as they were, and every pair is held
  pub record Swept (b b' : Ledger) : Type 0 where
    pub fixed : Fixed b b'
    pub arcs : b'.arcs ≡ b.arcs
    pub held : (n l : ℕ) → In b'.held n l ↔ ((n < b.nodes) × (l < S.labels))

  abbrev pub Proposed : List ℕ → Type 0
  Proposed strata = Stratification S (λ l. slice_index strata l)

  pub data SweepStep (b : Ledger) (strata table : List ℕ) : Result ℕ Refusal → List ℕ → Ledger → Type 0 where
    few_strata : length strata < S.labels → SweepStep b strata table (Err (Validator, 15)) table b
    no_strata : S.labels ≤ length strata → ¬ Proposed strata → SweepStep b strata table (Err (Validator, 16)) table b
    short_table : S.labels ≤ length strata → Proposed strata → length table < b.nodes * S.labels → SweepStep b strata table (Err (Validator, 17)) table b
    swept : {table' : List ℕ} {b' : Ledger} → S.labels ≤ length strata → Proposed strata → b.nodes * S.labels ≤ length table
        → Shows b table table' → Swept b b' → SweepStep b strata table (Ok (ones (take (b.nodes * S.labels) table'))) table' b'
