-- The first refusal of the rows of a table: one step of the search, and what no refusal says of each row. Assumes nothing.
use Rattle.std.proofs.Common.{◌≡◌, ℕ, zero, suc, ◌+◌, ◌<◌, List, [], ◌∷◌, length, get_or, Some, None, Option, sym, refl, ap, ◌∙◌, add-zero, add-one, arith}
use Rattle.std.proofs.lemmas.Option.{none-some}
use Rattle.draft.specs.Refusals.{Told, or_else, first_from}

pub none_of_two : (a b : Option Told) → or_else a b ≡ None → (a ≡ None) × (b ≡ None)
none_of_two None b e = (refl, e)
none_of_two (Some t) b e = absurd (none-some t (sym e))

-- the row x, of the number i, is the first of xs, and passes
pub first_passed : {A : Type 0} (test : ℕ → A → Option Told) (i r j : ℕ) (x : A) (xs rest : List A) (e : Option Told)
    → xs ≡ x ∷ rest → r ≡ i → j ≡ r + 1 → None ≡ test r x → first_from test i xs ≡ e → first_from test j rest ≡ e
first_passed test i r j x xs rest e h s n p q =
    ap (λ k. first_from test k rest) (n ∙ add-one r) ∙ ap (λ o. or_else o (first_from test (suc r) rest)) p
    ∙ ap (λ k. first_from test k (x ∷ rest)) s ∙ sym (ap (first_from test i) h) ∙ q

pub first_ended : {A : Type 0} (test : ℕ → A → Option Told) (i : ℕ) (xs : List A) (e : Option Told)
    → length xs ≡ 0 → first_from test i xs ≡ e → None ≡ e
first_ended test i [] e h q = q
first_ended test i (x ∷ xs) e h q = absurd (omega arith)

-- no refusal among the rows: each row passes
pub first_none : {A : Type 0} (test : ℕ → A → Option Told) (i : ℕ) (xs : List A) → first_from test i xs ≡ None
    → (j : ℕ) (d : A) → j < length xs → test (i + j) (get_or xs j d) ≡ None
first_none test i [] e j d h = absurd (omega arith)
first_none test i (x ∷ xs) e zero d h = ap (λ n. test n x) (add-zero i) ∙ (none_of_two _ _ e).0
first_none test i (x ∷ xs) e (suc j) d h =
    let s : i + suc j ≡ suc i + j = omega arith in
    ap (λ n. test n (get_or xs j d)) s ∙ first_none test (suc i) xs (none_of_two _ _ e).1 j d (omega arith)

pub this_one : (t : Told) (a b : Option Told) → Some t ≡ a → Some t ≡ or_else a b
this_one t a b e = ap (λ x. or_else x b) e

pub the_next : (e a b : Option Told) → None ≡ a → e ≡ b → e ≡ or_else a b
the_next e a b n h = h ∙ ap (λ x. or_else x b) n
