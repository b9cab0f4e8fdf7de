-- Parts that are not empty, in the order of their first elements.
use Rattle.std.proofs.Common.{◌≡◌, ℕ, zero, suc, List, [], ◌∷◌, arith}
use Rattle.shapes.specs.Lists.{Split, nil, left, right, Parts}
use Rattle.shapes.proofs.Times.{Filled}

module _ {A : Type 0} where
  -- j parts that have Q, each with the first element of what is left
  abbrev pub Heads : (List A → Type 0) → ℕ → List A → Type 0
  Heads Q zero zs = zs ≡ []
  Heads Q (suc j) [] = ⊥
  Heads Q (suc j) (z ∷ zs) = (xs ys : List A) × Split zs xs ys × Q (z ∷ xs) × Heads Q j ys

  -- zs is xs and ys, and ys is us and vs: zs is us and the rest, and the rest is xs and vs
  regroup : {zs xs ys us vs : List A} → Split zs xs ys → Split ys us vs → (ws : List A) × Split zs us ws × Split ws xs vs
  regroup nil nil = ([], nil, nil)
  regroup (left {a = a} s) t = let r = regroup s t in (a ∷ r.0, right r.1, left r.2)
  regroup (right s) (left t) = let r = regroup s t in (r.0, left r.1, r.2)
  regroup (right {a = a} s) (right t) = let r = regroup s t in (a ∷ r.0, right r.1, right r.2)

  module _ (Q : List A → Type 0) where
    insert : (j : ℕ) {zs ys xs : List A} {x : A} → Split zs (x ∷ xs) ys → Q (x ∷ xs) → Heads Q j ys → Heads Q (suc j) zs
    insert j (left s) q h = (_, _, s, q, h)
    insert zero (right s) q h = let z : ◌≡◌ {A = ℕ} 0 1 = cc in absurd (omega arith)
    insert (suc j) (right {a = a} s) q (us, vs, t, p, h) =
        let r = regroup s t in
        (us, r.0, r.1, p, insert j r.2 q h)

    pub parts_from_heads : (j : ℕ) (zs : List A) → Heads Q j zs → Parts (Filled Q) j zs
    parts_from_heads zero zs h = h
    parts_from_heads (suc j) [] h = absurd h
    parts_from_heads (suc j) (z ∷ zs) (xs, ys, s, q, h) = (z ∷ xs, ys, left s, q, parts_from_heads j ys h)

    pub heads_from_parts : (j : ℕ) (zs : List A) → Parts (Filled Q) j zs → Heads Q j zs
    heads_from_parts zero zs p = p
    heads_from_parts (suc j) zs ([], ys, s, q, p) = absurd q
    heads_from_parts (suc j) zs (x ∷ xs, ys, s, q, p) = insert j s q (heads_from_parts j ys p)
