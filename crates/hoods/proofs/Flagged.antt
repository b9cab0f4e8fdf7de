-- Rows with all that they name, and what a row stands for by these alone. Assumes nothing.
use Rattle.std.proofs.Common.{◌≡◌, ℕ, ◌+◌, ◌<◌, ◌≤◌, Bool, true, false, cond, ltb, List, length, get_or, Some as SomeMost, sym, refl, ap, subst, ap₂, inl, inr, ⊎_elim, arith}
use Rattle.std.proofs.lemmas.Bool.{ltb-true, and_parts, cases_eq}
use Rattle.shapes.specs.Expr.{Triple, empty, each, some, times}
use Rattle.shapes.specs.Meaning.{Arcs, Relation, Met}
use Rattle.draft.specs.Refusals.{triple_names}
use Rattle.draft.specs.Rows.{triple_node, triple_tree}
use Rattle.draft.specs.declared.rows.TripleRow.{TripleRow}
use Rattle.draft.specs.declared.rows.TripleRow.TheVariants.{Empty, Arc, Each, Some, Times}
use Rattle.masks.specs.Masks.{On}
use Rattle.masks.proofs.Flags.{Upto, not_on}
use Rattle.draft.specs.Named.{NamesTriple as Names}
use Rattle.hoods.specs.Named.{Whole}

pub named_below : (s l q : ℕ) (row : TripleRow) → triple_names s l q row ≡ true → (p : ℕ) → Names row p → p < q
named_below s l q Empty e p n = elim n [ ]
named_below s l q (Arc x y) e p n = elim n [ ]
named_below s l q (Each x y) e p (inl n) = subst (λ p. p < q) n (ltb-true x q (and_parts (ltb x q) (ltb y q) e).0)
named_below s l q (Each x y) e p (inr n) = subst (λ p. p < q) n (ltb-true y q (and_parts (ltb x q) (ltb y q) e).1)
named_below s l q (Some x y) e p (inl n) = subst (λ p. p < q) n (ltb-true x q (and_parts (ltb x q) (ltb y q) e).0)
named_below s l q (Some x y) e p (inr n) = subst (λ p. p < q) n (ltb-true y q (and_parts (ltb x q) (ltb y q) e).1)
named_below s l q (Times x least most) e p n = subst (λ p. p < q) n (ltb-true x q e)

pub node_agrees : (f g : ℕ → Triple) (row : TripleRow) → ((p : ℕ) → Names row p → f p ≡ g p) → triple_node f row ≡ triple_node g row
node_agrees f g Empty h = refl
node_agrees f g (Arc s l) h = refl
node_agrees f g (Each x y) h = ap₂ each (h x (inl refl)) (h y (inr refl))
node_agrees f g (Some x y) h = ap₂ some (h x (inl refl)) (h y (inr refl))
node_agrees f g (Times x least most) h = ap (λ e. times e least most) (h x refl)

-- from the row q on, flagged rows have what they name
abbrev pub From : ℕ → List TripleRow → List Bool → Type 0
From q rows flags = (r p : ℕ) → q ≤ r → r < length rows → On flags r → Names (get_or rows r Empty) p → On flags p

-- an expression that no arcs meet
abbrev pub never : Triple
never = times empty 1 (SomeMost 0)

-- what the rows with a flag stand for; the others, as if nothing met them
abbrev pub flagged_tree : List Bool → List TripleRow → ℕ → Triple
flagged_tree flags rows p = cond (get_or flags p false) (triple_tree rows p) never

pub flagged_is : (flags : List Bool) (rows : List TripleRow) (p : ℕ) → On flags p → flagged_tree flags rows p ≡ triple_tree rows p
flagged_is flags rows p on = ap (λ b. cond b (triple_tree rows p) never) on

pub unflagged_never : (sets : ℕ → ℕ → Bool) (P : Relation) (flags : List Bool) (rows : List TripleRow) (p : ℕ) → get_or flags p false ≡ false → (zs : Arcs) → Met sets P (flagged_tree flags rows p) zs → ⊥
unflagged_never sets P flags rows p off zs m =
    let none : Met sets P never zs = subst (λ b. Met sets P (cond b (triple_tree rows p) never) zs) off m in
    omega (arith, none.1, none.2)

pub flagged_node : (flags : List Bool) (rows : List TripleRow) (r : ℕ) → r < length rows → Whole rows flags → On flags r
    → triple_node (flagged_tree flags rows) (get_or rows r Empty) ≡ triple_node (triple_tree rows) (get_or rows r Empty)
flagged_node flags rows r l whole on = node_agrees (flagged_tree flags rows) (triple_tree rows) (get_or rows r Empty) (λ p n. flagged_is flags rows p (whole r p l on n))

-- a row that is passed over keeps the flags of those that are met
pub upto_skip : (flags : List Bool) (P : ℕ → Type 0) (q : ℕ) (c : List Bool) → get_or flags q false ≡ false → Upto (λ p. On flags p × P p) q c → Upto (λ p. On flags p × P p) (q + 1) c
upto_skip flags P q c off f k = (
  λ o. let x = (f k).0 o in (omega (arith, x.0), x.1),
  λ x. ⊎_elim
      (λ (e : k ≡ q). not_on (subst (λ m. get_or flags m false ≡ false) (sym e) off) x.1.0)
      (λ (d : k ≡ q → ⊥). (f k).1 (omega (arith, x.0), x.1))
      (cases_eq k q),
)
