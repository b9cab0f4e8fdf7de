-- Ledgers that no call can tell apart. Assumes nothing.
--     Alike b c     the same nodes, capacity, literals and tests, the same triples, none twice, and the same held pairs
use Rattle.std.specs.Prelude.{◌≡◌, ℕ, true}
use Rattle.triple.specs.Arcs.{distinct}
use Rattle.triple.specs.Stores.{present}
use Rattle.ledger.specs.Ledger.{Ledger}

pub record Alike (b c : Ledger) : Type 0 where
  pub nodes : b.nodes ≡ c.nodes
  pub capacity : b.capacity ≡ c.capacity
  pub literals : (n : ℕ) → b.literals n ≡ c.literals n
  pub passes : (n t : ℕ) → b.passes n t ≡ c.passes n t
  pub apart : (n : ℕ) → (distinct (b.arcs n) ≡ true) × (distinct (c.arcs n) ≡ true)
  pub triples : (s p o : ℕ) → present b.arcs s p o ≡ present c.arcs s p o
  pub held : (n l : ℕ) → b.held n l ≡ c.held n l
