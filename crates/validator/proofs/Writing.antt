-- How many bytes of a table are 1. Assumes nothing.
use Rattle.std.proofs.Common.{◌≡◌, ℕ, ◌+◌, cond, eqb, List, [], ◌∷◌, count_by, refl, ap, ◌∙◌}
use Rattle.std.proofs.lemmas.List.Sums.{sum_by-cons}
use Rattle.ledger.specs.Steps.{ones}

-- the bytes that are 1, counted
pub ones_counted : (xs : List ℕ) → count_by (λ x. eqb x 1) xs ≡ ones xs
ones_counted [] = refl
ones_counted (x ∷ xs) = sum_by-cons (λ y. cond (eqb y 1) 1 0) x xs ∙ ap (λ k. cond (eqb x 1) 1 0 + k) (ones_counted xs)
