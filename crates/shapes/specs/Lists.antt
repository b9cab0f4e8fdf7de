-- Lists of arcs as sets: members, order, disjoint parts. Assumes nothing.
--     Member a zs        a stands in zs
--     NoRepeats zs       no element stands in zs twice
--     Permuted xs ys     the same elements, each as often, in any order
--     Split zs xs ys     each element of zs goes to one of the two parts xs and ys
--     Parts Q k zs       zs splits into k parts that each have Q; a part may be empty
use Rattle.std.specs.Prelude.{◌≡◌, ℕ, zero, suc, List, [], ◌∷◌}

pub data Member {A : Type 0} (a : A) : List A → Type 0 where
  first : {zs : List A} → Member a (a ∷ zs)
  later : {b : A} {zs : List A} → Member a zs → Member a (b ∷ zs)

abbrev pub NoRepeats : {A : Type 0} → List A → Type 0
NoRepeats [] = Unit {0}
NoRepeats (z ∷ zs) = (¬ Member z zs) × NoRepeats zs

pub data Permuted {A : Type 0} : List A → List A → Type 0 where
  none : Permuted [] []
  keep : {a : A} {xs ys : List A} → Permuted xs ys → Permuted (a ∷ xs) (a ∷ ys)
  swap : {a b : A} {zs : List A} → Permuted (a ∷ b ∷ zs) (b ∷ a ∷ zs)
  then : {xs ys zs : List A} → Permuted xs ys → Permuted ys zs → Permuted xs zs

pub data Split {A : Type 0} : List A → List A → List A → Type 0 where
  nil : Split [] [] []
  left : {a : A} {zs xs ys : List A} → Split zs xs ys → Split (a ∷ zs) (a ∷ xs) ys
  right : {a : A} {zs xs ys : List A} → Split zs xs ys → Split (a ∷ zs) xs (a ∷ ys)

abbrev pub Parts : {A : Type 0} → (List A → Type 0) → ℕ → List A → Type 0
Parts Q zero zs = zs ≡ []
Parts {A} Q (suc k) zs = (xs ys : List A) × Split zs xs ys × Q xs × Parts Q k ys
