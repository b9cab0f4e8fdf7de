-- The sets of labels of the rows, worked out row by row, are those of the rows' expressions. Assumes nothing.
use Rattle.std.proofs.Common.{◌≡◌, ℕ, zero, suc, ◌+◌, ◌<◌, ◌≤◌, Bool, true, false, ◌&&◌, ◌||◌, ltb, List, length, get_or, set, replicate, sym, refl, ap, ◌∙◌, subst, ap₂, ⊎_elim, arith, get_or-set_other, get_or-set_same}
use Rattle.std.proofs.lemmas.Bool.{and_parts, ltb-true, lt-ltb, le-ltb, cases_eq, cases_lt}
use Rattle.shapes.specs.Expr.{Triple, Shape}
use Rattle.draft.specs.Refusals.{shape_names, triple_names}
use Rattle.draft.specs.Rows.{triple_node, triple_tree, shape_node, shape_tree}
use Rattle.draft.specs.declared.rows.ShapeRow.{ShapeRow}
use Rattle.draft.specs.declared.rows.ShapeRow.TheVariants.{Value, Hood, And, Or, Not}
use Rattle.draft.specs.declared.rows.TripleRow.{TripleRow}
use Rattle.draft.specs.declared.rows.TripleRow.TheVariants.{Empty, Arc, Each, Some, Times}
use Rattle.draft.proofs.Trees.{triple_unfold, shape_unfold}
use Rattle.labels.specs.Mentions.{has_arc, mentions, negates, arcs_by, mentions_by, negates_by}

-- test says which labels a row's sets hold, d are the sets of a row that is not filled yet
module _ {X : Type 0} (test : X → ℕ → Bool) (d : X) where
  none_at : (n a k : ℕ) → test (get_or (replicate n d) a d) k ≡ test d k
  none_at zero a k = refl
  none_at (suc n) zero k = refl
  none_at (suc n) (suc a) k = none_at n a k

  pub none_filled : (n : ℕ) (f : ℕ → ℕ → Bool) → ((k : ℕ) → test d k ≡ false) → (a k : ℕ) → test (get_or (replicate n d) a d) k ≡ (ltb a 0 && f a k)
  none_filled n f e a k = none_at n a k ∙ e k ∙ ap (λ b. b && f a k) (sym (le-ltb a 0 (omega arith)))

  -- one more row is filled
  pub filled_more : (rows : List X) (r : ℕ) (x : X) (f : ℕ → ℕ → Bool) → r < length rows
      → ((a k : ℕ) → test (get_or rows a d) k ≡ (ltb a r && f a k)) → ((k : ℕ) → test x k ≡ f r k)
      → (a k : ℕ) → test (get_or (set rows r x) a d) k ≡ (ltb a (r + 1) && f a k)
  filled_more rows r x f h before here a k =
      ⊎_elim
      (λ (e : a ≡ r).
      subst (λ n. test (get_or (set rows r x) n d) k ≡ (ltb n (r + 1) && f n k)) (sym e)
      (ap (λ y. test y k) (get_or-set_same rows r x d h) ∙ here k ∙ ap (λ b. b && f r k) (sym (lt-ltb r (r + 1) (omega arith)))))
      (λ (ne : a ≡ r → ⊥).
      ap (λ y. test y k) (get_or-set_other rows r a x d ne) ∙ before a k
      ∙ ap (λ b. b && f a k)
      (⊎_elim
      (λ (i : a < r). lt-ltb a r i ∙ sym (lt-ltb a (r + 1) (omega arith)))
      (λ (i : r ≤ a). le-ltb a r i ∙ sym (le-ltb a (r + 1) (omega arith)))
      (cases_lt a r)))
      (cases_eq a r)

-- a test that counts below a limit only says there what it says
pub below : (b x : Bool) (a n : ℕ) → a < n → b ≡ (ltb a n && x) → b ≡ x
below b x a n h e = e ∙ ap (λ c. c && x) (lt-ltb a n h)

-- two rows below r, in one of which the label stands
either : (a b r : ℕ) (f g : ℕ → ℕ → Bool) → (ltb a r && ltb b r) ≡ true → ((i k : ℕ) → f i k ≡ (ltb i r && g i k))
    → (k : ℕ) → (f a k || f b k) ≡ (g a k || g b k)
either a b r f g e h k =
    let p = and_parts _ _ e in ap₂ (λ x y. x || y) (below _ _ a r (ltb-true _ _ p.0) (h a k)) (below _ _ b r (ltb-true _ _ p.1) (h b k))

module _ (has : ℕ → Bool) where
  arcs_node : (s l r : ℕ) (f : ℕ → ℕ → Bool) (tree : ℕ → Triple) (row : TripleRow) → triple_names s l r row ≡ true
      → ((a k : ℕ) → f a k ≡ (ltb a r && has_arc has (tree a) k)) → (k : ℕ) → arcs_by has f row k ≡ has_arc has (triple_node tree row) k
  arcs_node s l r f tree Empty e h k = refl
  arcs_node s l r f tree (Arc p n) e h k = refl
  arcs_node s l r f tree (Each a b) e h k = either a b r f (λ i. has_arc has (tree i)) e h k
  arcs_node s l r f tree (Some a b) e h k = either a b r f (λ i. has_arc has (tree i)) e h k
  arcs_node s l r f tree (Times a least most) e h k = below _ _ a r (ltb-true _ _ e) (h a k)

  pub arcs_row : (s l : ℕ) (rows : List TripleRow) → ((r : ℕ) → r < length rows → triple_names s l r (get_or rows r Empty) ≡ true)
      → (r : ℕ) → r < length rows → (f : ℕ → ℕ → Bool) → ((a k : ℕ) → f a k ≡ (ltb a r && has_arc has (triple_tree rows a) k))
      → (k : ℕ) → arcs_by has f (get_or rows r Empty) k ≡ has_arc has (triple_tree rows r) k
  arcs_row s l rows ok r h f below k =
      arcs_node s l r f (triple_tree rows) (get_or rows r Empty) (ok r h) below k
      ∙ ap (λ t. has_arc has t k) (sym (triple_unfold s l rows ok r h))

  mentions_node : (n r : ℕ) (arcs f : ℕ → ℕ → Bool) (triple : ℕ → Triple) (tree : ℕ → Shape) (row : ShapeRow) → shape_names n r row ≡ true
      → ((e k : ℕ) → arcs e k ≡ (ltb e n && has_arc has (triple e) k)) → ((a k : ℕ) → f a k ≡ (ltb a r && mentions has (tree a) k))
      → (k : ℕ) → mentions_by arcs f row k ≡ mentions has (shape_node triple tree row) k
  mentions_node n r arcs f triple tree (Value t) e i h k = refl
  mentions_node n r arcs f triple tree (Hood a) e i h k = below _ _ a n (ltb-true _ _ e) (i a k)
  mentions_node n r arcs f triple tree (And a b) e i h k = either a b r f (λ i. mentions has (tree i)) e h k
  mentions_node n r arcs f triple tree (Or a b) e i h k = either a b r f (λ i. mentions has (tree i)) e h k
  mentions_node n r arcs f triple tree (Not a) e i h k = below _ _ a r (ltb-true _ _ e) (h a k)

  negates_node : (n r : ℕ) (m f : ℕ → ℕ → Bool) (triple : ℕ → Triple) (tree : ℕ → Shape) (row : ShapeRow) → shape_names n r row ≡ true
      → ((a k : ℕ) → m a k ≡ (ltb a r && mentions has (tree a) k)) → ((a k : ℕ) → f a k ≡ (ltb a r && negates has (tree a) k))
      → (k : ℕ) → negates_by m f row k ≡ negates has (shape_node triple tree row) k
  negates_node n r m f triple tree (Value t) e i h k = refl
  negates_node n r m f triple tree (Hood a) e i h k = refl
  negates_node n r m f triple tree (And a b) e i h k = either a b r f (λ i. negates has (tree i)) e h k
  negates_node n r m f triple tree (Or a b) e i h k = either a b r f (λ i. negates has (tree i)) e h k
  negates_node n r m f triple tree (Not a) e i h k = below _ _ a r (ltb-true _ _ e) (i a k)

  module _ (ts : List TripleRow) (rows : List ShapeRow)
      (ok : (r : ℕ) → r < length rows → shape_names (length ts) r (get_or rows r (Value 0)) ≡ true) (r : ℕ) (h : r < length rows) where
    pub mentions_row : (arcs f : ℕ → ℕ → Bool) → ((e k : ℕ) → arcs e k ≡ (ltb e (length ts) && has_arc has (triple_tree ts e) k))
        → ((a k : ℕ) → f a k ≡ (ltb a r && mentions has (shape_tree ts rows a) k))
        → (k : ℕ) → mentions_by arcs f (get_or rows r (Value 0)) k ≡ mentions has (shape_tree ts rows r) k
    mentions_row arcs f i below k =
        mentions_node (length ts) r arcs f (triple_tree ts) (shape_tree ts rows) (get_or rows r (Value 0)) (ok r h) i below k
        ∙ ap (λ t. mentions has t k) (sym (shape_unfold (length ts) ts rows ok r h))

    pub negates_row : (m f : ℕ → ℕ → Bool) → ((a k : ℕ) → m a k ≡ (ltb a r && mentions has (shape_tree ts rows a) k))
        → ((a k : ℕ) → f a k ≡ (ltb a r && negates has (shape_tree ts rows a) k))
        → (k : ℕ) → negates_by m f (get_or rows r (Value 0)) k ≡ negates has (shape_tree ts rows r) k
    negates_row m f i below k =
        negates_node (length ts) r m f (triple_tree ts) (shape_tree ts rows) (get_or rows r (Value 0)) (ok r h) i below k
        ∙ ap (λ t. negates has t k) (sym (shape_unfold (length ts) ts rows ok r h))
