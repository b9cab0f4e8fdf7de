-- The ledger of a validator, from what its store and value test mean and what it keeps. Assumes nothing.
--     book ..        the ledger with these triples, tests and held pairs
--     opening ..     the ledger with these triples and tests that holds no pair
use Rattle.std.specs.Prelude.{ℕ, Bool, false, List}
use Rattle.triple.specs.Stores.{Lists}
use Rattle.shapes.specs.Bytes.{byte_typing}
use Rattle.ledger.specs.Ledger.{Ledger}

-- a pair is held if its byte is 1
abbrev pub book : (nodes capacity : ℕ) → Lists → (ℕ → Bool) → (ℕ → ℕ → Bool) → (labels : ℕ) → List ℕ → Ledger
book nodes capacity arcs literals passes labels held =
    record { nodes = nodes; capacity = capacity; literals = literals; passes = passes; arcs = arcs; held = byte_typing nodes labels held }

abbrev pub opening : (nodes capacity : ℕ) → Lists → (ℕ → Bool) → (ℕ → ℕ → Bool) → Ledger
opening nodes capacity arcs literals passes =
    record { nodes = nodes; capacity = capacity; literals = literals; passes = passes; arcs = arcs; held = λ n l. false }
