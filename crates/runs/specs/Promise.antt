-- What a validator promises over a whole list of calls, from its making on. Assumes nothing.
--     Kept S b calls answers tables tables' b' bytes
--         from the ledger b, whichever stratification it goes by, the calls have these answers, make these bytes of
--         these tables, and leave the ledger b'; the bytes have the verdict of each pair that b' holds
use Rattle.std.specs.Prelude.{ℕ, ◌↔◌, List}
use Rattle.shapes.specs.Expr.{Schema}
use Rattle.shapes.specs.References.{Stratification}
use Rattle.shapes.specs.Typing.{In}
use Rattle.ledger.specs.Ledger.{Ledger, graph, Verdict}
use Rattle.ledger.specs.Sound.{typing}
use Rattle.replay.specs.declared.call.Call.{Call}
use Rattle.replay.specs.declared.call.Answer.{Answer}
use Rattle.replay.specs.Runs.{Runs, Best}

pub record Kept (S : Schema) (b : Ledger) (calls : List Call) (answers : List Answer) (tables tables' : List ℕ) (b' : Ledger) (bytes : List ℕ) : Type 0 where
  pub some : (σ : ℕ → ℕ) × Stratification S σ
  pub answered : (σ : ℕ → ℕ) → Stratification S σ → Runs S σ b calls answers tables tables' b'
  pub verdicts : (σ : ℕ → ℕ) → Stratification S σ → (n l : ℕ) → In b'.held n l → In (typing S b' bytes) n l ↔ Verdict S σ b' n l
  pub maximal : (σ : ℕ → ℕ) → Stratification S σ → Best S (graph b') σ
