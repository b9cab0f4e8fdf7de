-- What it is to decide wanted pairs, given the verdicts on held ones. Assumes nothing.
--     Room ..             the slices have a stratum for each label, and a byte for each pair
--     stratum strata      the stratum of a label
--     either K W          the pairs of the one or the other
--     Right .. C T        on the pairs of C, T is the maximal typing
--     Ready .. T          the held pairs K and the wanted pairs W are apart and together closed under leaning, and T is right on K
--     size S G            how many pairs of a node and a label there are
--     table S G bytes     the typing that the bytes show
--     Decided ..          where there is room and all is ready, the table after is right on the held and the wanted pairs
--     is_wanted ..        whether the byte at k is that of a wanted pair
--     Untouched ..        no other byte changed
--     Bits ..             the byte of a wanted pair is 0 or 1
--     Written ..          where there is room, it is so in the table after
use Rattle.std.specs.Prelude.{◌≡◌, ℕ, ◌*◌, ◌≤◌, Bool, true, false, ◌&&◌, ◌||◌, ◌↔◌, List, length, ◌==◌, nat_lt, slice_index}
use Rattle.shapes.specs.Expr.{Schema}
use Rattle.shapes.specs.References.{Stratification}
use Rattle.shapes.specs.Typing.{Graph, Typing, In, Maximal}
use Rattle.shapes.specs.Leaning.{Closed}
use Rattle.shapes.specs.Bytes.{byte_typing}

pub record Room (size labels : ℕ) (strata held wanted typing : List ℕ) : Type 0 where
  pub strata_long : labels ≤ length strata
  pub held_long : size ≤ length held
  pub wanted_long : size ≤ length wanted
  pub typing_long : size ≤ length typing

abbrev pub stratum : List ℕ → ℕ → ℕ
stratum strata l = slice_index strata l

abbrev pub either : Typing → Typing → Typing
either K W n l = K n l || W n l

module _ (S : Schema) (G : Graph) (σ : ℕ → ℕ) where
  abbrev pub Right : Typing → Typing → Type 0
  Right C T = (n l : ℕ) → In C n l → In T n l ↔ Maximal S G σ n l

  pub record Ready (K W T : Typing) : Type 0 where
    pub stratified : Stratification S σ
    pub apart : (n l : ℕ) → In K n l → ¬ In W n l
    pub closed : Closed S G (In (either K W))
    pub right : Right K T

module _ (S : Schema) (G : Graph) where
  abbrev pub size : ℕ
  size = G.nodes * S.labels

  abbrev pub table : List ℕ → Typing
  table = byte_typing G.nodes S.labels

  -- from what the slices hold at the start to the typing at the end
  abbrev pub Decided : List ℕ → List ℕ → List ℕ → List ℕ → List ℕ → Type 0
  Decided strata held wanted before after =
      Room size S.labels strata held wanted before
      → Ready S G (stratum strata) (table held) (table wanted) (table before)
      → Right S G (stratum strata) (either (table held) (table wanted)) (table after)

  abbrev pub is_wanted : List ℕ → ℕ → Bool
  is_wanted wanted k = nat_lt k size && slice_index wanted k == 1

  abbrev pub Untouched : List ℕ → List ℕ → List ℕ → Type 0
  Untouched wanted before after = (k : ℕ) → is_wanted wanted k ≡ false → slice_index after k ≡ slice_index before k

  abbrev pub Bits : List ℕ → List ℕ → Type 0
  Bits wanted after = (k : ℕ) → is_wanted wanted k ≡ true → slice_index after k ≤ 1

  abbrev pub Written : List ℕ → List ℕ → List ℕ → List ℕ → List ℕ → Type 0
  Written strata held wanted before after = Room size S.labels strata held wanted before → Bits wanted after
