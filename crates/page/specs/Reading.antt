-- The lists that the bytes of a page stand for, and what comes of adding some of them. Assumes nothing.
--     pairs ps os              properties and objects side by side, as arcs
--     rows fans ps os          for each node the arcs that its fan gives it
--     Whole n t bytes          a page of n nodes and t arcs has its two count bytes and its length
--     Outcome b ts k b' r      what comes of the adds of the triples ts, the first of which is entry k
use Rattle.std.specs.Prelude.{◌≡◌, ℕ, ◌+◌, ◌*◌, ◌/◌, ◌%◌, List, [], ◌∷◌, length, take, drop, Ok, Err, sum, Result, slice_index}
use Rattle.triple.specs.Arcs.{Arc}
use Rattle.triple.specs.Stores.{Lists}
use Rattle.ledger.specs.Ledger.{Ledger}
use Rattle.validate.specs.Faults as validator
use Rattle.page.specs.declared.fault.Entry.{Entry}
use Rattle.page.specs.Format.{Spo}
use Rattle.page.specs.Loading.{Adds, Stops}

abbrev pub pairs : List ℕ → List ℕ → List Arc
pairs [] os = []
pairs (p ∷ ps) [] = []
pairs (p ∷ ps) (o ∷ os) = (p, o) ∷ pairs ps os

abbrev pub rows : List ℕ → List ℕ → List ℕ → Lists
rows fans ps os n = pairs (take (slice_index fans n) (drop (sum (take n fans)) ps)) (take (slice_index fans n) (drop (sum (take n fans)) os))

pub record Whole (n t : ℕ) (bytes : List ℕ) : Type 0 where
  pub count : take 2 bytes ≡ n % 256 ∷ n / 256 ∷ []
  pub size : length bytes ≡ 2 + n + 2 * t

abbrev pub Outcome : Ledger → List Spo → ℕ → Ledger → Result (Unit {0}) Entry → Type 0
Outcome b ts start b' (Ok x) = Adds b ts b'
Outcome b ts start b' (Err e) = (k : ℕ) × (e.at ≡ start + k) × Stops b ts k (validator.code e.fault) b'
