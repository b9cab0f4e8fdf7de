-- The due pairs, and writes into their bytes. Assumes nothing.
--     is_due due k           whether the byte at k is that of a due pair
--     Raised due x y         y is x with each due pair put in
--     is_cleared .. x l      whether the pair of a node and the label l is due, in the node's row x, and not found
--     Cleared .. x any y     y is the row x without those pairs, and any says whether there is one
use Rattle.std.specs.Prelude.{◌≡◌, ℕ, ◌+◌, ◌*◌, ◌%◌, ◌<◌, Bool, true, false, not, ◌&&◌, List, if◌then◌else◌, ◌==◌, nat_lt, slice_index}
use Rattle.refine.specs.declared.due.Due.{Due}
use Rattle.refine.specs.Tables.{has_label}

abbrev pub is_due : Due → ℕ → Bool
is_due due k = nat_lt k (due.nodes * due.labels) && (slice_index due.wanted.now k == 1 && slice_index due.strata.now (k % due.labels) == due.stratum)

abbrev pub Raised : Due → List ℕ → List ℕ → Type 0
Raised due x y = (k : ℕ) → slice_index y k ≡ (if is_due due k then 1 else slice_index x k)

abbrev pub is_cleared : Due → ℕ → List Bool → List ℕ → ℕ → Bool
is_cleared due node found x l = slice_index x l == 1 && (is_due due (node * due.labels + l) && not (has_label found l))

pub record Cleared (due : Due) (node : ℕ) (found : List Bool) (x : List ℕ) (any : Bool) (y : List ℕ) : Type 0 where
  pub bytes : (l : ℕ) → l < due.labels → slice_index y l ≡ (if is_cleared due node found x l then 0 else slice_index x l)
  pub same : any ≡ false → y ≡ x
  pub some : any ≡ true → (l : ℕ) × (l < due.labels) × (is_cleared due node found x l ≡ true)
