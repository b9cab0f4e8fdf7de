-- What a validator promises of a call, whichever stratification the ledger goes by. Assumes nothing.
--     State          what a validator means: its schema, its ledger, and the bytes of its verdicts
--     Under s P      P holds for every stratification under which the held verdicts of the state s are sound
--     Keeps s s'     a step from the state s to s' keeps the schema, and the soundness of the held verdicts
use Rattle.std.specs.Prelude.{◌≡◌, ℕ, List}
use Rattle.shapes.specs.Expr.{Schema}
use Rattle.shapes.specs.References.{Stratification}
use Rattle.ledger.specs.Ledger.{Ledger}
use Rattle.ledger.specs.Sound.{Sound}

pub record State : Type 0 where
  pub schema : Schema
  pub ledger : Ledger
  pub verdicts : List ℕ

abbrev pub Under : State → ((ℕ → ℕ) → Type 0) → Type 0
Under s P = (σ : ℕ → ℕ) → Stratification s.schema σ → Sound s.schema σ s.ledger s.verdicts → P σ

pub record Keeps (s s' : State) : Type 0 where
  pub schema : s'.schema ≡ s.schema
  pub sound : Under s (λ σ. Sound s.schema σ s'.ledger s'.verdicts)
