-- What is kept by no step, and by one step after another. Assumes nothing.
use Rattle.std.proofs.Common.{◌≡◌, ℕ, refl, ◌∙◌, subst}
use Rattle.shapes.specs.Expr.{Schema}
use Rattle.shapes.specs.References.{Stratification}
use Rattle.ledger.specs.Sound.{Sound}
use Rattle.validate.specs.Promise.{State, Under, Keeps}

pub keeps_none : (s : State) → Keeps s s
keeps_none s = record { schema = refl; sound = λ σ stratified sound. sound }

-- what holds under the stratifications of a state holds under those of each state before it
pub under_later : (P : Schema → (ℕ → ℕ) → Type 0) (s m : State) → Keeps s m → Under m (P m.schema) → Under s (P s.schema)
under_later P s m kept holds σ stratified sound =
    subst (λ S. (ρ : ℕ → ℕ) → Stratification S ρ → Sound S ρ m.ledger m.verdicts → P S ρ) kept.schema holds σ stratified (kept.sound σ stratified sound)

pub keeps_then : (s m t : State) → Keeps s m → Keeps m t → Keeps s t
keeps_then s m t first then =
    record { schema = then.schema ∙ first.schema; sound = under_later (λ S σ. Sound S σ t.ledger t.verdicts) s m first then.sound }
