-- The ledger: a plain account of what a validator must know and answer. Assumes nothing.
--     Ledger            the triples present and the pairs of node and label whose verdicts are held
--     graph b           the graph of its triples
--     Verdict S σ b     its typing: the maximal typing of its triples under the stratification σ of the schema S
--     add_refusal ..    how each call refuses, if it does
use Rattle.std.specs.Prelude.{ℕ, Bool, [], ◌∷◌, Option, nat_le}
use Rattle.refusal.specs.declared.Layer.TheVariants.{Validator}
use Rattle.refusal.specs.Refusals.{Refusal, first, or_else}
use Rattle.triple.specs.Stores.{Lists, put_refusal, take_refusal}
use Rattle.shapes.specs.Expr.{Schema}
use Rattle.shapes.specs.Meaning.{Relation}
use Rattle.shapes.specs.Typing.{Graph, Typing, Maximal}

-- the triples stand as each node's arcs, in any order and none twice; nodes, capacity, literals and passes never change
pub record Ledger : Type 0 where
  pub nodes : ℕ
  pub capacity : ℕ
  pub literals : ℕ → Bool
  pub passes : ℕ → ℕ → Bool
  pub arcs : Lists
  pub held : Typing

abbrev pub graph : Ledger → Graph
graph b = record { nodes = b.nodes; arcs = b.arcs; passes = b.passes }

abbrev pub Verdict : Schema → (ℕ → ℕ) → Ledger → Relation
Verdict S σ b = Maximal S (graph b) σ

-- add: its own rules, then the store's
abbrev pub add_refusal : Ledger → (s p o : ℕ) → Option Refusal
add_refusal b s p o =
    or_else
    (first ((nat_le b.nodes s, (Validator, 7)) ∷ (nat_le b.nodes o, (Validator, 8)) ∷ (b.literals s, (Validator, 9)) ∷ []))
    (put_refusal b.nodes b.capacity b.arcs s p o)

-- withdraw: the store's rules alone
abbrev pub withdraw_refusal : Ledger → (s p o : ℕ) → Option Refusal
withdraw_refusal b s p o = take_refusal b.nodes b.arcs s p o

-- look and held: the node, then the label
abbrev pub pair_refusal : Schema → Ledger → (n l : ℕ) → Option Refusal
pair_refusal S b n l = first ((nat_le b.nodes n, (Validator, 7)) ∷ (nat_le S.labels l, (Validator, 14)) ∷ [])
