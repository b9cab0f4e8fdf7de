-- Flags of shape rows that are right by those that they name say what the node satisfies.
use Rattle.std.proofs.Common.{◌≡◌, ℕ, zero, suc, ◌+◌, ◌<◌, ◌≤◌, Bool, true, false, not, ◌&&◌, ◌||◌, ltb, ◌≢◌, ◌↔◌, List, length, get_or, set, sym, refl, ap, ◌∙◌, subst, ap₂, inl, inr, arith, get_or-set_other, get_or-set_same}
use Rattle.std.proofs.lemmas.Bool.{ltb-true, lt-ltb, and_parts, and_from, cases_eq}
use Rattle.std.proofs.lemmas.Bool.Decides.{Decides-and, Decides-or, Decides-not}
use Rattle.shapes.specs.Expr.{Shape}
use Rattle.shapes.specs.Meaning.{Arcs, Relation, Met, Satisfies}
use Rattle.shapes.specs.Typing.{Graph, In, Satisfied}
use Rattle.draft.specs.Lawful.{Lawful}
use Rattle.draft.specs.Refusals.{shape_names}
use Rattle.draft.specs.Rows.{triple_tree, shape_node, shape_tree}
use Rattle.draft.specs.Tables.{Tables, schema_of}
use Rattle.draft.specs.declared.rows.ShapeRow.{ShapeRow}
use Rattle.draft.specs.declared.rows.ShapeRow.TheVariants.{Value, Hood, And, Or, Not}
use Rattle.draft.specs.declared.rows.TripleRow.{TripleRow}
use Rattle.draft.proofs.Trees.{shape_unfold}
use Rattle.masks.specs.Masks.{On}
use Rattle.masks.proofs.Flags.{Upto}
use Rattle.hoods.specs.Typings.{typed}
use Rattle.hoods.specs.Words.{Meets}
use Rattle.node_check.specs.Answers.{Answered}
use Rattle.draft.specs.Named.{NamesShape as Names}
use Rattle.node_check.specs.Named.{Hoods, Leads, here, on, Asks}
use Rattle.node_check.specs.Shapes.{row_holds, Settled}
use Rattle.node_check.proofs.Naming.{named_below, hood_below, leads_below}

-- a row that may stand at q may stand further on, and before more triple rows
pub names_more : (n m q p : ℕ) (row : ShapeRow) → n ≤ m → q ≤ p → shape_names n q row ≡ true → shape_names m p row ≡ true
names_more n m q p (Value t) k h e = e
names_more n m q p (Hood x) k h e = lt-ltb x m (omega (arith, ltb-true x n e))
names_more n m q p (And x y) k h e =
    let t = and_parts (ltb x q) (ltb y q) e in
    and_from _ _ (lt-ltb x p (omega (arith, ltb-true x q t.0))) (lt-ltb y p (omega (arith, ltb-true y q t.1)))
names_more n m q p (Or x y) k h e =
    let t = and_parts (ltb x q) (ltb y q) e in
    and_from _ _ (lt-ltb x p (omega (arith, ltb-true x q t.0))) (lt-ltb y p (omega (arith, ltb-true y q t.1)))
names_more n m q p (Not x) k h e = lt-ltb x p (omega (arith, ltb-true x q e))

module _ (passes : ℕ → Bool) (met : List Bool) where
  -- a row rests on the flags below it alone
  same_holds : (n q : ℕ) (row : ShapeRow) (holds new : List Bool) → shape_names n q row ≡ true → ((a : ℕ) → a < q → get_or new a false ≡ get_or holds a false)
      → row_holds passes met holds row ≡ row_holds passes met new row
  same_holds n q (Value t) holds new e f = refl
  same_holds n q (Hood x) holds new e f = refl
  same_holds n q (And x y) holds new e f =
      let t = and_parts (ltb x q) (ltb y q) e in
      ap₂ ◌&&◌ (sym (f x (ltb-true x q t.0))) (sym (f y (ltb-true y q t.1)))
  same_holds n q (Or x y) holds new e f =
      let t = and_parts (ltb x q) (ltb y q) e in
      ap₂ ◌||◌ (sym (f x (ltb-true x q t.0))) (sym (f y (ltb-true y q t.1)))
  same_holds n q (Not x) holds new e f = ap not (sym (f x (ltb-true x q e)))

  pub settled_more : (n : ℕ) (rows : List ShapeRow) (q : ℕ) (holds : List Bool) (v : Bool) → q < length holds
      → ((r : ℕ) → r < q + 1 → shape_names n r (get_or rows r (Value 0)) ≡ true)
      → v ≡ row_holds passes met holds (get_or rows q (Value 0)) → Settled passes met rows q holds → Settled passes met rows (q + 1) (set holds q v)
  settled_more n rows q holds v l names e f r h =
      elim (cases_eq r q) [
        | inl w ↦ subst (λ r. get_or (set holds q v) r false ≡ row_holds passes met (set holds q v) (get_or rows r (Value 0))) (sym w)
            (get_or-set_same holds q v false l ∙ e ∙ same_holds n q (get_or rows q (Value 0)) holds (set holds q v) (names q (omega arith)) (λ a k. kept a (omega arith)))
        | inr d ↦ kept r d ∙ f r (omega arith) ∙ same_holds n r (get_or rows r (Value 0)) holds (set holds q v) (names r h) (λ a k. kept a (omega arith))
      ]
    where
      kept : (a : ℕ) → a ≢ q → get_or (set holds q v) a false ≡ get_or holds a false
      kept a ne = get_or-set_other holds q a v false ne

module _ (sets : ℕ → ℕ → Bool) (P : Relation) (passes : ℕ → Bool) (zs : Arcs) (ts : List TripleRow) (met : List Bool) where
  row_says : (tree : ℕ → Shape) (holds : List Bool) (row : ShapeRow) → ((e : ℕ) → Hoods row e → On met e ↔ Met sets P (triple_tree ts e) zs)
      → ((a : ℕ) → Names row a → On holds a ↔ Satisfies sets P passes zs (tree a))
      → (row_holds passes met holds row ≡ true) ↔ Satisfies sets P passes zs (shape_node (triple_tree ts) tree row)
  row_says tree holds (Value t) h f = (λ h. h, λ h. h)
  row_says tree holds (Hood x) h f = h x refl
  row_says tree holds (And x y) h f = Decides-and (get_or holds x false) (get_or holds y false) (f x (inl refl)) (f y (inr refl))
  row_says tree holds (Or x y) h f = Decides-or (get_or holds x false) (get_or holds y false) (f x (inl refl)) (f y (inr refl))
  row_says tree holds (Not x) h f = Decides-not (get_or holds x false) (f x refl)

  module _ (rows : List ShapeRow) (names : (r : ℕ) → r < length rows → shape_names (length ts) r (get_or rows r (Value 0)) ≡ true)
      (holds : List Bool) (settled : Settled passes met rows (length rows) holds) (d : ℕ)
      (hoods : (r e : ℕ) → Leads rows d r → Hoods (get_or rows r (Value 0)) e → On met e ↔ Met sets P (triple_tree ts e) zs) where
    says_below : (n r : ℕ) → r < n → r < length rows → Leads rows d r → On holds r ↔ Satisfies sets P passes zs (shape_tree ts rows r)
    says_below zero r h l way = absurd (omega arith)
    says_below (suc n) r h l way =
        let below = named_below (length ts) r (get_or rows r (Value 0)) (names r l) in
        let x = row_says (shape_tree ts rows) holds (get_or rows r (Value 0)) (λ e k. hoods r e way k) (λ a k. says_below n a (omega (arith, below a k)) (omega (arith, below a k)) (on way k)) in
        subst (λ e. On holds r ↔ Satisfies sets P passes zs e) (sym (shape_unfold (length ts) ts rows names r l))
        (subst (λ b. (b ≡ true) ↔ Satisfies sets P passes zs (shape_node (triple_tree ts) (shape_tree ts rows) (get_or rows r (Value 0)))) (sym (settled r l)) x)

    -- the flag of a row that the row d leads to says whether the node satisfies what the row stands for
    pub shape_says : (r : ℕ) → r < length rows → Leads rows d r → On holds r ↔ Satisfies sets P passes zs (shape_tree ts rows r)
    shape_says r l way = says_below (suc r) r (omega arith) l way

-- the flags of the wanted labels, by those of their definitions
pub answered : (t : Tables) → Lawful t → (G : Graph) (table : List ℕ) (n : ℕ) (wanted asked met holds answers : List Bool) → n < G.nodes
    → ((e : ℕ) → Asks t wanted e → On asked e)
    → ((p : ℕ) → On met p → Meets t table (G.arcs n) p) → ((p : ℕ) → On asked p → Meets t table (G.arcs n) p → On met p)
    → Settled (G.passes n) met t.shapes (length t.shapes) holds
    → Upto (λ l. On wanted l × On holds (get_or t.definitions l 0)) (length t.definitions) answers
    → (l : ℕ) → On answers l ↔ (On wanted l × Answered t G table n l)
answered t law G table n wanted asked met holds answers there asks only every settled copied l = (
  λ o. (let x = (copied l).0 o in (x.1.0, (there, x.0, (says x.0 x.1.0).0 x.1.1))),
  λ x. (copied l).1 (x.1.1, (x.0, (says x.1.1 x.0).1 x.1.2)),
)
  where
    says : l < length t.definitions → On wanted l → On holds (get_or t.definitions l 0) ↔ Satisfied (schema_of t) G (In (typed (schema_of t).labels table)) n l
    says h w =
        let d = get_or t.definitions l 0 in
        shape_says (schema_of t).sets (In (typed (schema_of t).labels table)) (G.passes n) (G.arcs n) t.triples met t.shapes law.shape_rows holds settled d
        (λ r e way k. (λ o. (only e o).1, λ m. every e (asks e (l, r, h, w, way, k)) (hood_below (length t.triples) r (get_or t.shapes r (Value 0)) (law.shape_rows r (leads_below (length t.triples) t.shapes law.shape_rows d (law.defined l h) way)) e k, m)))
        d (law.defined l h) here
