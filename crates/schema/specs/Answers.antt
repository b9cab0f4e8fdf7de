-- What accept and strata answer. Assumes nothing.
--     Answered t o               accept answers o for the tables t: what their rows are refused with, or else a negation
--     NegationAnswered S o      o is 6 with the first negated reference on a cycle, or nothing if there is none
--     strata_refusal n m         15 if m bytes are fewer than n labels
use Rattle.std.specs.Prelude.{◌≡◌, ℕ, cond, Some, None, Option, MatchOption, nat_lt}
use Rattle.shapes.specs.Expr.{Schema}
use Rattle.shapes.specs.References.{NegatedCycle}
use Rattle.draft.specs.Refusals.{Told, told, row_refusal}
use Rattle.draft.specs.Tables.{Tables, schema_of}
use Rattle.draft.specs.declared.fault.SchemaFault.TheVariants.{Negation, ShortBuffer}
use Rattle.references.specs.Cycles.{FirstOnCycle}

abbrev pub NegationAnswered : Schema → Option Told → Type 0
NegationAnswered S o =
    MatchOption o (NegatedCycle S → ⊥) (λ e. (l k : ℕ) × (e ≡ told (Negation l k)) × FirstOnCycle S l k)

abbrev pub Answered : Tables → Option Told → Type 0
Answered t o = MatchOption (row_refusal t) (NegationAnswered (schema_of t) o) (λ e. o ≡ Some e)

abbrev pub strata_refusal : ℕ → ℕ → Option Told
strata_refusal labels bytes = cond (nat_lt bytes labels) (Some (told ShortBuffer)) None
