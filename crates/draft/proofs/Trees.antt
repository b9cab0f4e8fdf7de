-- In lawful tables a row stands for its own case over what the rows that it names stand for. Assumes nothing.
use Rattle.std.proofs.Common.{◌≡◌, ℕ, zero, suc, ◌<◌, true, List, length, get_or, sym, refl, ap, ap₂, ◌∙◌, arith}
use Rattle.std.proofs.lemmas.Bool.{and_parts, ltb-true}
use Rattle.shapes.specs.Expr.{Triple, each, some, times, Shape, and, or, not}
use Rattle.draft.specs.Lawful.{Unfolds}
use Rattle.draft.specs.Refusals.{shape_names, triple_names}
use Rattle.draft.specs.Rows.{triple_node, triple_within, triple_tree, shape_node, shape_within, shape_tree}
use Rattle.draft.specs.declared.rows.ShapeRow.{ShapeRow}
use Rattle.draft.specs.declared.rows.ShapeRow.TheVariants.{Value, Hood, And, Or, Not}
use Rattle.draft.specs.declared.rows.TripleRow.{TripleRow}
use Rattle.draft.specs.declared.rows.TripleRow.TheVariants.{Empty, Arc, Each, Some, Times}
use Rattle.draft.proofs.Lawful.{are_lawful}

-- a row that names only smaller rows is the same over trees that agree below it
triple_same : (s l r : ℕ) (f g : ℕ → Triple) (row : TripleRow) → triple_names s l r row ≡ true
    → ((a : ℕ) → a < r → f a ≡ g a) → triple_node f row ≡ triple_node g row
triple_same s l r f g Empty e h = refl
triple_same s l r f g (Arc p k) e h = refl
triple_same s l r f g (Each a b) e h =
    let p = and_parts _ _ e in ap₂ each (h a (ltb-true _ _ p.0)) (h b (ltb-true _ _ p.1))
triple_same s l r f g (Some a b) e h =
    let p = and_parts _ _ e in ap₂ some (h a (ltb-true _ _ p.0)) (h b (ltb-true _ _ p.1))
triple_same s l r f g (Times a least most) e h = ap (λ x. times x least most) (h a (ltb-true _ _ e))

shape_same : (n r : ℕ) (t : ℕ → Triple) (f g : ℕ → Shape) (row : ShapeRow) → shape_names n r row ≡ true
    → ((a : ℕ) → a < r → f a ≡ g a) → shape_node t f row ≡ shape_node t g row
shape_same n r t f g (Value v) e h = refl
shape_same n r t f g (Hood a) e h = refl
shape_same n r t f g (And a b) e h =
    let p = and_parts _ _ e in ap₂ and (h a (ltb-true _ _ p.0)) (h b (ltb-true _ _ p.1))
shape_same n r t f g (Or a b) e h =
    let p = and_parts _ _ e in ap₂ or (h a (ltb-true _ _ p.0)) (h b (ltb-true _ _ p.1))
shape_same n r t f g (Not a) e h = ap not (h a (ltb-true _ _ e))

-- trees of rows, where each row is the same over trees that agree below it: r + 1 steps down from the row r are enough
module _ {R T : Type 0} (node : (ℕ → T) → R → T) (row : ℕ → R) (n : ℕ) (within : ℕ → ℕ → T)
    (step : (m r : ℕ) → within (suc m) r ≡ node (within m) (row r))
    (same : (r : ℕ) (f g : ℕ → T) → r < n → ((a : ℕ) → a < r → f a ≡ g a) → node f (row r) ≡ node g (row r)) where
  enough : (m k r : ℕ) → r < n → r < m → r < k → within m r ≡ within k r
  enough zero k r h p q = absurd (omega arith)
  enough (suc m) zero r h p q = absurd (omega arith)
  enough (suc m) (suc k) r h p q =
      step m r ∙ same r (within m) (within k) h (λ a i. enough m k a (omega arith) (omega arith) (omega arith)) ∙ sym (step k r)

  one_step : (r : ℕ) → r < n → within (suc r) r ≡ node (λ a. within (suc a) a) (row r)
  one_step r h =
      step r r
      ∙ same r (within r) (λ a. within (suc a) a) h (λ a i. enough r (suc a) a (omega arith) (omega arith) (omega arith))

module _ (s l : ℕ) (rows : List TripleRow) (ok : (r : ℕ) → r < length rows → triple_names s l r (get_or rows r Empty) ≡ true) where
  pub triple_unfold : (r : ℕ) → r < length rows → triple_tree rows r ≡ triple_node (triple_tree rows) (get_or rows r Empty)
  unfolding triple_within
  triple_unfold =
      one_step triple_node (λ r. get_or rows r Empty) (length rows) (triple_within rows) (λ m r. refl)
      (λ r f g h. triple_same s l r f g (get_or rows r Empty) (ok r h))

module _ (n : ℕ) (ts : List TripleRow) (rows : List ShapeRow) (ok : (r : ℕ) → r < length rows → shape_names n r (get_or rows r (Value 0)) ≡ true) where
  pub shape_unfold : (r : ℕ) → r < length rows
      → shape_tree ts rows r ≡ shape_node (triple_tree ts) (shape_tree ts rows) (get_or rows r (Value 0))
  unfolding shape_within
  shape_unfold =
      one_step (shape_node (triple_tree ts)) (λ r. get_or rows r (Value 0)) (length rows) (shape_within ts rows) (λ m r. refl)
      (λ r f g h. shape_same n r (triple_tree ts) f g (get_or rows r (Value 0)) (ok r h))

pub unfolds : Unfolds
unfolds t e =
    let law = are_lawful t e in (
      triple_unfold (length t.sets) (length t.definitions) t.triples law.triple_rows,
      shape_unfold (length t.triples) t.triples t.shapes law.shape_rows,
    )
