-- Lists of arcs. Assumes nothing.
--     Arc               a property with an object
--     same a p o        the arc a is (p, o)
--     has p o arcs      the arc (p, o) stands in the list
--     distinct arcs     no arc stands there twice
--     inside n arcs     each property is below 256, and each object below n
use Rattle.std.specs.Prelude.{ℕ, Bool, true, false, not, ◌&&◌, ◌||◌, List, [], ◌∷◌, ◌==◌, nat_lt}

abbrev pub Arc : Type 0
Arc = ℕ × ℕ

abbrev pub same : Arc → ℕ → ℕ → Bool
same a p o = a.0 == p && a.1 == o

abbrev pub has : ℕ → ℕ → List Arc → Bool
has p o [] = false
has p o (a ∷ arcs) = same a p o || has p o arcs

abbrev pub distinct : List Arc → Bool
distinct [] = true
distinct (a ∷ arcs) = not (has a.0 a.1 arcs) && distinct arcs

abbrev pub inside : ℕ → List Arc → Bool
inside n [] = true
inside n (a ∷ arcs) = (nat_lt a.0 256 && nat_lt a.1 n) && inside n arcs
