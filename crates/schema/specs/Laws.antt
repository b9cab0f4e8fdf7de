-- Which schemas have a stratification. Assumes nothing.
--     Stratified     tables whose rows are lawful have one exactly if no negated reference lies on a cycle
--     SomeStrata    every schema in a place has one
use Rattle.std.specs.Prelude.{◌≡◌, ℕ, ◌↔◌, None}
use Rattle.shapes.specs.References.{NegatedCycle, Stratification}
use Rattle.draft.specs.Refusals.{row_refusal}
use Rattle.draft.specs.Tables.{Tables, schema_of}
use Rattle.schema.specs.Accepted.{meaning}
use Rattle.schema.specs.declared.schema.Schema.{Schema}

abbrev pub Stratified : Type 0
Stratified = (t : Tables) → row_refusal t ≡ None → ((σ : ℕ → ℕ) × Stratification (schema_of t) σ) ↔ (NegatedCycle (schema_of t) → ⊥)

abbrev pub SomeStrata : Type 0
SomeStrata = (s : Schema) → (σ : ℕ → ℕ) × Stratification (meaning s) σ
