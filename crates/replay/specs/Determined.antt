-- That what the ledger answers rests on the calls alone. Assumes nothing.
--     Steady       from ledgers that are alike, whichever stratification each goes by, a call has one answer, makes one table, and leaves ledgers that are alike
--     Determined   and so has a list of calls
use Rattle.std.specs.Prelude.{◌≡◌, ℕ, List}
use Rattle.shapes.specs.Expr.{Schema}
use Rattle.shapes.specs.References.{Stratification}
use Rattle.ledger.specs.Ledger.{Ledger}
use Rattle.ledger.specs.Alike.{Alike}
use Rattle.replay.specs.declared.call.Call.{Call}
use Rattle.replay.specs.declared.call.Answer.{Answer}
use Rattle.replay.specs.Runs.{Step, Runs}

abbrev pub Steady : Type 0
Steady =
    (S : Schema) (σ ρ : ℕ → ℕ) → Stratification S σ → Stratification S ρ → (b c : Ledger) → Alike b c
    → (call : Call) (a d : Answer) (part t u : List ℕ) (b' c' : Ledger) → Step S σ b call a part t b' → Step S ρ c call d part u c'
    → (a ≡ d) × (t ≡ u) × Alike b' c'

abbrev pub Determined : Type 0
Determined =
    (S : Schema) (σ ρ : ℕ → ℕ) → Stratification S σ → Stratification S ρ → (b c : Ledger) → Alike b c
    → (calls : List Call) (os qs : List Answer) (tables t u : List ℕ) (b' c' : Ledger) → Runs S σ b calls os tables t b' → Runs S ρ c calls qs tables u c'
    → (os ≡ qs) × (t ≡ u) × Alike b' c'
