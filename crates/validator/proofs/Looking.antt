-- Looks and held verdicts, as steps of the ledger. Assumes nothing.
use Rattle.std.proofs.Common.{◌≡◌, ℕ, ◌<◌, Bool, eqb, ◌⊎◌, ◌↔◌, List, get_or, Some, None, Ok, Decides, sym, refl, ap, ◌∙◌, subst, inr}
use Rattle.std.proofs.lemmas.Bool.{eq-eqb, ne_eqb}
use Rattle.triple.specs.Stores.{Lists}
use Rattle.shapes.specs.Bytes.{place, byte_typing}
use Rattle.shapes.specs.Expr.{Schema}
use Rattle.shapes.specs.References.{Stratification}
use Rattle.shapes.specs.Leaning.{Reached, asked}
use Rattle.shapes.specs.Typing.{In}
use Rattle.shapes.proofs.Leaning.{closed_either, reached_closed}
use Rattle.ledger.specs.Ledger.{Ledger, graph, Verdict}
use Rattle.ledger.specs.Sound.{Sound}
use Rattle.ledger.specs.Steps.{LookStep, HeldStep}
use Rattle.validator.specs.Books.{book}
use Rattle.validator.specs.Marks.{LookedAt}
use Rattle.validator.proofs.Places.{shown_byte}
use Rattle.validator.proofs.Refusing.{pair_fine}

-- a pair that is there, and the place k of its byte
module _ (S : Schema) (N C : ℕ) (A : Lists) (literals : ℕ → Bool) (passes : ℕ → ℕ → Bool) (held verdicts : List ℕ)
    (n l k : ℕ) (node : n < N) (label : l < S.labels) (at : k ≡ place S.labels n l) where
  abbrev ledger : List ℕ → Ledger
  ledger = book N C A literals passes S.labels

  abbrev shown : List ℕ → ℕ → ℕ → Bool
  shown = byte_typing N S.labels

  byte : (bytes : List ℕ) → shown bytes n l ≡ eqb (get_or bytes k 0) 1
  byte bytes = shown_byte N S.labels bytes n l node label ∙ ap (λ i. eqb (get_or bytes i 0) 1) (sym at)

  -- the answer that a byte gives
  decides : (σ : ℕ → ℕ) (bytes : List ℕ) → In (shown bytes) n l ↔ Verdict S σ (ledger held) n l → Decides (eqb (get_or bytes k 0) 1) (Verdict S σ (ledger held) n l)
  decides σ bytes right = subst (λ yes. Decides yes (Verdict S σ (ledger held) n l)) (byte bytes) right

  pub held_step : (σ : ℕ → ℕ) → Sound S σ (ledger held) verdicts → get_or held k 0 ≡ 1 → HeldStep S σ (ledger held) n l (Ok (Some (eqb (get_or verdicts k 0) 1)))
  held_step σ sound one =
      let here : In (shown held) n l = byte held ∙ eq-eqb (get_or held k 0) 1 one in
      HeldStep.held (pair_fine S (ledger held) n l node label) here (decides σ verdicts (sound.right n l here))

  pub not_held_step : (σ : ℕ → ℕ) → (get_or held k 0 ≡ 1 → ⊥) → HeldStep S σ (ledger held) n l (Ok None)
  not_held_step σ other = HeldStep.not_held (pair_fine S (ledger held) n l node label) (byte held ∙ ne_eqb (get_or held k 0) 1 other)

  module _ (held' verdicts' : List ℕ) (looked : LookedAt S (graph (ledger held)) n l (shown held) (shown verdicts) (shown held') (shown verdicts'))
      (σ : ℕ → ℕ) (stratified : Stratification S σ) (sound : Sound S σ (ledger held) verdicts) where
    abbrev pairs : (o j : ℕ) → In (shown held') o j ↔ (In (shown held) o j ⊎ Reached S (graph (ledger held)) n l o j)
    pairs = (looked sound.closed).0

    right : (o j : ℕ) → In (shown held') o j → In (shown verdicts') o j ↔ Verdict S σ (ledger held) o j
    right = (looked sound.closed).1 σ stratified sound.right

    pub look_step : LookStep S σ (ledger held) n l (Ok (eqb (get_or verdicts' k 0) 1)) (ledger held')
    look_step =
        LookStep.looked (pair_fine S (ledger held) n l node label) (decides σ verdicts' (right n l ((pairs n l).1 (inr asked))))
        (record { fixed = record { nodes = refl; capacity = refl; literals = refl; passes = refl }; arcs = refl; held = pairs })

    pub look_sound : Sound S σ (ledger held') verdicts'
    look_sound =
        record {
          closed = λ o j m i h leans. (pairs m i).1
              (closed_either S (graph (ledger held)) (In (shown held)) (Reached S (graph (ledger held)) n l) sound.closed (reached_closed S (graph (ledger held)) n l) o j m i ((pairs o j).0 h) leans);
          right = right;
        }
