-- A value written into a list where a test holds. Assumes nothing.
--     WrittenUpTo test value x n any y  of the first n places those whose item the test holds of have the value, any says whether there is one, and no other item changed
--     WrittenWhere test value x any y   the same of all places
use Rattle.std.specs.Prelude.{◌≡◌, ℕ, ◌<◌, ◌≤◌, Bool, true, false, List, length, if◌then◌else◌, slice_index_or}

module _ {T : Type 0} (test : ℕ → T → Bool → Type 0) (value : T) (x : List T) where
  pub record WrittenUpTo (n : ℕ) (any : Bool) (y : List T) : Type 0 where
    pub before : (k : ℕ) → k < n → (b : Bool) × test k (slice_index_or x k value) b × (slice_index_or y k value ≡ (if b then value else slice_index_or x k value))
    pub past : (k : ℕ) → n ≤ k → slice_index_or y k value ≡ slice_index_or x k value
    pub same : any ≡ false → y ≡ x
    pub some : any ≡ true → (k : ℕ) × (k < n) × test k (slice_index_or x k value) true

  abbrev pub WrittenWhere : Bool → List T → Type 0
  WrittenWhere any y = WrittenUpTo (length x) any y
