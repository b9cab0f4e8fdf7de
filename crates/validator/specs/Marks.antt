-- Bytes of pairs that are written together, and what is decided of them. Assumes nothing.
--     Placed ..     the place of the byte of a pair that is there
--     Forgot ..     the bytes of the nodes with a mark are cleared, and no other
--     Joined ..     the bytes of the wanted pairs are set, and no other
--     Written ..    the bytes of a table are the verdicts, 1 for yes and 0 for no; later bytes stay
--     Widens ..     from right verdicts on K to right verdicts on K and W
use Rattle.std.specs.Prelude.{◌≡◌, ℕ, ◌/◌, ◌<◌, Bool, false, cond, ◌&&◌, ◌⊎◌, ◌↔◌, List, ◌==◌, nat_lt, slice_index, slice_index_or}
use Rattle.shapes.specs.Bytes.{place}
use Rattle.shapes.specs.Expr.{Schema}
use Rattle.shapes.specs.Leaning.{Closed, Reached}
use Rattle.shapes.specs.References.{Stratification}
use Rattle.shapes.specs.Typing.{Graph, Typing, In}
use Rattle.refine.specs.Deciding.{either, Right, Ready}

abbrev pub Placed : (nodes labels n l : ℕ) → ℕ → Type 0
Placed nodes labels n l k = (n < nodes) × (l < labels) × (k ≡ place labels n l) × (k < 8192)

abbrev pub Forgot : (size labels : ℕ) → List Bool → List ℕ → List ℕ → Type 0
Forgot size labels marks held held' =
    (k : ℕ) → slice_index held' k ≡ cond (nat_lt k size && slice_index_or marks (k / labels) false) 0 (slice_index held k)

abbrev pub Joined : ℕ → List ℕ → List ℕ → List ℕ → Type 0
Joined size wanted held held' = (k : ℕ) → slice_index held' k ≡ cond (nat_lt k size && slice_index wanted k == 1) 1 (slice_index held k)

abbrev pub Written : ℕ → List ℕ → List ℕ → List ℕ → Type 0
Written size verdicts table table' = (k : ℕ) → slice_index table' k ≡ cond (nat_lt k size) (cond (slice_index verdicts k == 1) 1 0) (slice_index table k)

module _ (S : Schema) (G : Graph) where
  abbrev pub Widens : Typing → Typing → Typing → Typing → Type 0
  Widens K W T T' = (σ : ℕ → ℕ) → Ready S G σ K W T → Right S G σ (either K W) T'

  -- held pairs and verdicts before and after a look at (n, l)
  abbrev pub LookedAt : ℕ → ℕ → Typing → Typing → Typing → Typing → Type 0
  LookedAt n l K T K' T' =
      Closed S G (In K)
      → ((o k : ℕ) → In K' o k ↔ (In K o k ⊎ Reached S G n l o k))
      × ((σ : ℕ → ℕ) → Stratification S σ → Right S G σ K T → Right S G σ K' T')

  -- held pairs and verdicts before and after all pairs are decided
  abbrev pub AllDecided : Typing → Typing → Typing → Typing → Type 0
  AllDecided K T K' T' =
      ((n l : ℕ) → In K' n l ↔ ((n < G.nodes) × (l < S.labels)))
      × ((σ : ℕ → ℕ) → Stratification S σ → Right S G σ K T → Right S G σ K' T')
