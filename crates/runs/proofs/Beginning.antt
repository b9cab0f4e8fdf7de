-- From what a validator promises of its own state to what it promises from its making on. Assumes nothing.
use Rattle.std.proofs.Common.{◌≡◌, ℕ, sym, subst}
use Rattle.shapes.specs.Expr.{Schema}
use Rattle.shapes.specs.References.{Stratification}
use Rattle.ledger.specs.Ledger.{Ledger}
use Rattle.ledger.specs.Sound.{Sound}
use Rattle.validate.specs.Promise.{State, Under}

-- the schema S and the ledger b that a validator is made of, and the state that it has then
pub from_making : (S : Schema) (b : Ledger) (s : State) → s.schema ≡ S → s.ledger ≡ b → ((σ : ℕ → ℕ) → Sound S σ b s.verdicts)
    → (P : Schema → (ℕ → ℕ) → Ledger → Type 0) → Under s (λ σ. P s.schema σ s.ledger) → (σ : ℕ → ℕ) → Stratification S σ → P S σ b
from_making S b s same begins sound P holds σ stratified =
    let sound_here : Sound s.schema σ s.ledger s.verdicts = subst (λ X. Sound X σ s.ledger s.verdicts) (sym same) (subst (λ x. Sound S σ x s.verdicts) (sym begins) (sound σ)) in
    subst (λ X. P X σ b) same (subst (λ x. P s.schema σ x) begins (holds σ (subst (λ X. Stratification X σ) (sym same) stratified) sound_here))
