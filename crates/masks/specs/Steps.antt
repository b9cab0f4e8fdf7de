-- What the inner loops over masks have done so far. Assumes nothing.
--     Spread ..      the set c is old with s + e for each part e of u, from lo on, that b has
--     Joined ..      c has t + d for each t of a below s and each disjoint d of b
--     More ..        new is old with one part more at part + e than at e, for each part e of the rest, from lo on
--     Begun ..       counts has the part counts of each mask of n places by first parts below p
--     Counted ..     counts has the part counts of each mask below the bound
use Rattle.std.specs.Prelude.{◌≡◌, ℕ, zero, suc, ◌+◌, ◌^◌, ◌<◌, ◌≤◌, Bool, ◌⊎◌, ◌↔◌, List, slice_index}
use Rattle.masks.specs.Masks.{On, Bit, Apart, Chain}

abbrev pub Spread : ℕ → List Bool → List Bool → ℕ → ℕ → ℕ → List Bool → Type 0
Spread n old b s u lo c =
    (m : ℕ) → m < 2 ^ n → On c m ↔ (On old m ⊎ ((e f : ℕ) × Apart n e f × (e + f ≡ u) × (lo ≤ e) × (s + e ≡ m) × On b e))

abbrev pub Joined : ℕ → List Bool → List Bool → ℕ → List Bool → Type 0
Joined n a b s c = (m : ℕ) → m < 2 ^ n → On c m ↔ ((t d : ℕ) × (t < s) × Apart n t d × (t + d ≡ m) × On a t × On b d)

abbrev pub Gain : List ℕ → ℕ → ℕ → ℕ → ℕ → ℕ → ℕ → Type 0
Gain old part rest n lo m zero = ⊥
Gain old part rest n lo m (suc j) = (e f : ℕ) × Apart n e f × (e + f ≡ rest) × (lo ≤ e) × (part + e ≡ m) × Bit (slice_index old e) j

abbrev pub More : List ℕ → ℕ → ℕ → ℕ → List ℕ → Type 0
More old part rest lo new =
    (n : ℕ) → rest < 2 ^ n → (m j : ℕ) → j < 16 → Bit (slice_index new m) j ↔ (Bit (slice_index old m) j ⊎ Gain old part rest n lo m j)

-- a chain whose first part is below p
abbrev pub Below : List Bool → ℕ → ℕ → ℕ → Type 0
Below a p zero m = m ≡ 0
Below a p (suc j) m = (i s d : ℕ) × Apart i s d × (m ≡ 2 ^ i + (s + d)) × (2 ^ i + s < p) × On a (2 ^ i + s) × Chain a j d

abbrev pub Begun : List Bool → List ℕ → ℕ → ℕ → Type 0
Begun a counts n p = (m j : ℕ) → m < 2 ^ n → j < 16 → Bit (slice_index counts m) j ↔ Below a p j m

abbrev pub Counted : List Bool → List ℕ → ℕ → Type 0
Counted a counts below = (m j : ℕ) → m < below → j < 16 → Bit (slice_index counts m) j ↔ Chain a j m
