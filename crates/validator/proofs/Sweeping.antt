-- Sweeps, as steps of the ledger. Assumes nothing.
use Rattle.std.proofs.Common.{◌≡◌, ℕ, ◌*◌, ◌<◌, ◌≤◌, Bool, true, false, cond, eqb, ◌⊎◌, ◌↔◌, List, length, get_or, take, Ok, sym, refl, ap, ◌∙◌, subst, inl, inr}
use Rattle.std.proofs.lemmas.Bool.{cases_Bool, both_ways, lt-ltb, le-ltb}
use Rattle.triple.specs.Stores.{Lists}
use Rattle.shapes.specs.Bytes.{place, byte_typing}
use Rattle.shapes.specs.Expr.{Schema}
use Rattle.shapes.specs.References.{Stratification}
use Rattle.shapes.specs.Leaning.{Closed}
use Rattle.shapes.specs.Typing.{In}
use Rattle.ledger.specs.Ledger.{Ledger, graph, Verdict}
use Rattle.ledger.specs.Sound.{Sound}
use Rattle.ledger.specs.Steps.{Shows, SweepStep, Proposed, ones}
use Rattle.validator.specs.Books.{book}
use Rattle.validator.specs.Marks.{AllDecided, Written}
use Rattle.validator.proofs.Places.{place_below, shown_byte}

module _ (S : Schema) (N C : ℕ) (A : Lists) (literals : ℕ → Bool) (passes : ℕ → ℕ → Bool) (held verdicts held' verdicts' : List ℕ) where
  abbrev ledger : List ℕ → Ledger
  ledger = book N C A literals passes S.labels

  abbrev shown : List ℕ → ℕ → ℕ → Bool
  shown = byte_typing N S.labels

  module _ (decided : AllDecided S (graph (ledger held)) (shown held) (shown verdicts) (shown held') (shown verdicts'))
      (σ : ℕ → ℕ) (stratified : Stratification S σ) (sound : Sound S σ (ledger held) verdicts) where
    right : (n l : ℕ) → In (shown held') n l → In (shown verdicts') n l ↔ Verdict S σ (ledger held) n l
    right = decided.1 σ stratified sound.right

    pub sweep_sound : Closed S (graph (ledger held)) (λ n l. (n < N) × (l < S.labels)) → Sound S σ (ledger held') verdicts'
    sweep_sound bounded =
        record { closed = λ n l o k h leans. (decided.0 o k).1 (bounded n l o k ((decided.0 n l).0 h) leans); right = right }

    module _ (table table' : List ℕ) (long : length table' ≡ length table) (written : Written (N * S.labels) verdicts' table table') where
      shows : Shows S σ (ledger held) table table'
      shows = record { kept = long; pairs = λ n l h k. pair n l h k (cases_Bool _); later = λ k h. written k ∙ rw (le-ltb k (N * S.labels) h) refl }
        where
          byte : (n l : ℕ) → n < N → l < S.labels → get_or table' (place S.labels n l) 0 ≡ cond (eqb (get_or verdicts' (place S.labels n l) 0) 1) 1 0
          byte n l h k = written (place S.labels n l) ∙ rw (lt-ltb (place S.labels n l) (N * S.labels) (place_below N S.labels n l h k)) refl

          verdict : (n l : ℕ) → n < N → l < S.labels → In (shown verdicts') n l ↔ Verdict S σ (ledger held) n l
          verdict n l h k = right n l ((decided.0 n l).1 (h, k))

          pair : (n l : ℕ) → n < N → l < S.labels → (eqb (get_or verdicts' (place S.labels n l) 0) 1 ≡ true) ⊎ (eqb (get_or verdicts' (place S.labels n l) 0) 1 ≡ false)
              → ((get_or table' (place S.labels n l) 0 ≡ 1) × Verdict S σ (ledger held) n l) ⊎ ((get_or table' (place S.labels n l) 0 ≡ 0) × ¬ Verdict S σ (ledger held) n l)
          pair n l h k (inl e) = inl (byte n l h k ∙ ap (λ y. cond y 1 0) e, (verdict n l h k).0 (shown_byte N S.labels verdicts' n l h k ∙ e))
          pair n l h k (inr e) = inr (byte n l h k ∙ ap (λ y. cond y 1 0) e, λ v. both_ways _ e (sym (shown_byte N S.labels verdicts' n l h k) ∙ (verdict n l h k).1 v))

      pub sweep_step : (strata : List ℕ) (count : ℕ) → S.labels ≤ length strata → Proposed S σ strata → N * S.labels ≤ length table → count ≡ ones (take (N * S.labels) table')
          → SweepStep S σ (ledger held) strata table (Ok count) table' (ledger held')
      sweep_step strata count enough proposed room counted =
          subst (λ m. SweepStep S σ (ledger held) strata table (Ok m) table' (ledger held')) (sym counted)
          (SweepStep.swept enough proposed room shows (record { fixed = record { nodes = refl; capacity = refl; literals = refl; passes = refl }; arcs = refl; held = decided.0 }))
