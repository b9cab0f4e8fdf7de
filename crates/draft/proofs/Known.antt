-- In lawful tables a label refers only to labels that are there. Assumes nothing.
use Rattle.std.proofs.Common.{◌≡◌, ℕ, zero, suc, ◌<◌, ◌≤◌, true, ◌⊎◌, List, length, get_or, ap, subst, inl, inr}
use Rattle.std.proofs.lemmas.List.{get_or_past}
use Rattle.std.proofs.lemmas.Bool.{and_parts, ltb-true, cases_lt}
use Rattle.shapes.specs.Expr.{Triple, Shape}
use Rattle.shapes.specs.References.{HasArc, Mentions, Refers}
use Rattle.draft.specs.Refusals.{triple_names}
use Rattle.draft.specs.Rows.{triple_node, triple_within, triple_tree, shape_node, shape_within}
use Rattle.draft.specs.Tables.{Tables, schema_of}
use Rattle.draft.specs.declared.rows.ShapeRow.{ShapeRow}
use Rattle.draft.specs.declared.rows.ShapeRow.TheVariants.{Value, Hood, And, Or, Not}
use Rattle.draft.specs.declared.rows.TripleRow.{TripleRow}
use Rattle.draft.specs.declared.rows.TripleRow.TheVariants.{Empty, Arc, Each, Some, Times}

known_node : (s n r : ℕ) (tree : ℕ → Triple) (k : ℕ) → ((a : ℕ) → HasArc (tree a) k → k < n)
    → (row : TripleRow) → triple_names s n r row ≡ true → HasArc (triple_node tree row) k → k < n
known_node s n r tree k below Empty e h = absurd h
known_node s n r tree k below (Arc p l) e h = subst (λ x. x < n) h (ltb-true l n (and_parts _ _ e).1)
known_node s n r tree k below (Each a b) e (inl h) = below a h
known_node s n r tree k below (Each a b) e (inr h) = below b h
known_node s n r tree k below (Some a b) e (inl h) = below a h
known_node s n r tree k below (Some a b) e (inr h) = below b h
known_node s n r tree k below (Times a least most) e h = below a h

module _ (s n : ℕ) (rows : List TripleRow) (ok : (r : ℕ) → r < length rows → triple_names s n r (get_or rows r Empty) ≡ true) where
  everywhere : (r : ℕ) → triple_names s n r (get_or rows r Empty) ≡ true
  everywhere r = pick (cases_lt r (length rows))
    where
      pick : (r < length rows) ⊎ (length rows ≤ r) → triple_names s n r (get_or rows r Empty) ≡ true
      pick (inl h) = ok r h
      pick (inr h) = ap (triple_names s n r) (get_or_past rows r Empty h)

  known_within : (m r k : ℕ) → HasArc (triple_within rows m r) k → k < n
  unfolding triple_within
  known_within zero r k h = absurd h
  known_within (suc m) r k h =
      known_node s n r (triple_within rows m) k (λ a. known_within m a k) (get_or rows r Empty) (everywhere r) h

shape_known_node : (n : ℕ) (triple : ℕ → Triple) (tree : ℕ → Shape) (k : ℕ) → ((e : ℕ) → HasArc (triple e) k → k < n)
    → ((a : ℕ) → Mentions (tree a) k → k < n) → (row : ShapeRow) → Mentions (shape_node triple tree row) k → k < n
shape_known_node n triple tree k arcs below (Value t) h = absurd h
shape_known_node n triple tree k arcs below (Hood e) h = arcs e h
shape_known_node n triple tree k arcs below (And a b) (inl h) = below a h
shape_known_node n triple tree k arcs below (And a b) (inr h) = below b h
shape_known_node n triple tree k arcs below (Or a b) (inl h) = below a h
shape_known_node n triple tree k arcs below (Or a b) (inr h) = below b h
shape_known_node n triple tree k arcs below (Not a) h = below a h

shape_known_within : (n : ℕ) (ts : List TripleRow) (rows : List ShapeRow) → ((e k : ℕ) → HasArc (triple_tree ts e) k → k < n)
    → (m r k : ℕ) → Mentions (shape_within ts rows m r) k → k < n
unfolding shape_within
shape_known_within n ts rows arcs zero r k h = absurd h
shape_known_within n ts rows arcs (suc m) r k h =
    shape_known_node n (triple_tree ts) (shape_within ts rows m) k (λ e. arcs e k) (λ a. shape_known_within n ts rows arcs m a k)
    (get_or rows r (Value 0)) h

pub known : (t : Tables) → ((r : ℕ) → r < length t.triples → triple_names (length t.sets) (length t.definitions) r (get_or t.triples r Empty) ≡ true)
    → (l k : ℕ) → Refers (schema_of t) l k → k < length t.definitions
known t ok l k h =
    shape_known_within (length t.definitions) t.triples t.shapes
    (λ r j. known_within (length t.sets) (length t.definitions) t.triples ok (suc r) r j)
    (suc (get_or t.definitions l 0)) (get_or t.definitions l 0) k h.1
