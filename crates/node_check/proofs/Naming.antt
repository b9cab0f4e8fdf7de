-- Where definitions lead. Assumes nothing.
use Rattle.std.proofs.Common.{◌≡◌, ℕ, ◌+◌, ◌<◌, Bool, true, false, ltb, ◌⊎◌, ◌↔◌, List, length, get_or, set, sym, ap, ◌∙◌, subst, inl, inr, ⊎_elim, arith}
use Rattle.std.proofs.lemmas.Bool.{ltb-true, and_parts, cases_eq}
use Rattle.draft.specs.Refusals.{shape_names}
use Rattle.draft.specs.declared.rows.ShapeRow.{ShapeRow}
use Rattle.draft.specs.declared.rows.ShapeRow.TheVariants.{Value, Hood, And, Or, Not}
use Rattle.masks.specs.Masks.{On}
use Rattle.masks.proofs.Flags.{not_on}
use Rattle.draft.proofs.Flags.{flag_set}
use Rattle.draft.specs.Named.{NamesShape as Names}
use Rattle.node_check.specs.Named.{Hoods, Leads, here, on}

pub same_right : {A B C D : Type 0} → A ↔ (B ⊎ C) → D ↔ C → A ↔ (B ⊎ D)
same_right f g =
    (λ a. ⊎_elim inl (λ c. inr (g.1 c)) (f.0 a), λ h. f.1 (⊎_elim inl (λ d. inr (g.0 d)) h))

pub named_below : (n q : ℕ) (row : ShapeRow) → shape_names n q row ≡ true → (p : ℕ) → Names row p → p < q
named_below n q (Value t) e p h = elim h [ ]
named_below n q (Hood x) e p h = elim h [ ]
named_below n q (And x y) e p (inl h) = subst (λ p. p < q) h (ltb-true x q (and_parts (ltb x q) (ltb y q) e).0)
named_below n q (And x y) e p (inr h) = subst (λ p. p < q) h (ltb-true y q (and_parts (ltb x q) (ltb y q) e).1)
named_below n q (Or x y) e p (inl h) = subst (λ p. p < q) h (ltb-true x q (and_parts (ltb x q) (ltb y q) e).0)
named_below n q (Or x y) e p (inr h) = subst (λ p. p < q) h (ltb-true y q (and_parts (ltb x q) (ltb y q) e).1)
named_below n q (Not x) e p h = subst (λ p. p < q) h (ltb-true x q e)

pub hood_below : (n q : ℕ) (row : ShapeRow) → shape_names n q row ≡ true → (x : ℕ) → Hoods row x → x < n
hood_below n q (Value t) e x h = elim h [ ]
hood_below n q (Hood y) e x h = subst (λ x. x < n) h (ltb-true y n e)
hood_below n q (And a b) e x h = elim h [ ]
hood_below n q (Or a b) e x h = elim h [ ]
hood_below n q (Not a) e x h = elim h [ ]

module _ (n : ℕ) (rows : List ShapeRow) (names : (r : ℕ) → r < length rows → shape_names n r (get_or rows r (Value 0)) ≡ true) (d : ℕ) (there : d < length rows) where
  -- a row that a row leads to is there
  pub leads_below : {r : ℕ} → Leads rows d r → r < length rows
  leads_below here = there
  leads_below (on {r = r} {p = p} way k) = let b = leads_below way in omega (arith, b, named_below n r (get_or rows r (Value 0)) (names r b) p k)

  -- and has a flag, where flagged rows have what they name
  pub leads_flagged : (flags : List Bool) → ((r p : ℕ) → r < length rows → On flags r → Names (get_or rows r (Value 0)) p → On flags p) → On flags d → {r : ℕ} → Leads rows d r → On flags r
  leads_flagged flags whole first here = first
  leads_flagged flags whole first (on {r = r} {p = p} way k) = whole r p (leads_below way) (leads_flagged flags whole first way) k

-- the definitions of the wanted labels below q have flags
abbrev pub Defined : List Bool → List ℕ → ℕ → List Bool → Type 0
Defined wanted defs q flags = (k : ℕ) → k < q → On wanted k → On flags (get_or defs k 0)

pub defined_more : (wanted : List Bool) (defs : List ℕ) (q : ℕ) (flags : List Bool) (x : ℕ) → x ≡ get_or defs q 0 → x < length flags → Defined wanted defs q flags → Defined wanted defs (q + 1) (set flags x true)
defined_more wanted defs q flags x e l old k h w =
    (flag_set flags x (get_or defs k 0) l).1
    (⊎_elim (λ (s : k ≡ q). inr (e ∙ ap (λ m. get_or defs m 0) (sym s))) (λ (d : k ≡ q → ⊥). inl (old k (omega arith) w)) (cases_eq k q))

pub defined_skip : (wanted : List Bool) (defs : List ℕ) (q : ℕ) (flags : List Bool) → get_or wanted q false ≡ false → Defined wanted defs q flags → Defined wanted defs (q + 1) flags
defined_skip wanted defs q flags off old k h w =
    ⊎_elim (λ (s : k ≡ q). not_on (subst (λ m. get_or wanted m false ≡ false) (sym s) off) w) (λ (d : k ≡ q → ⊥). old k (omega arith) w) (cases_eq k q)
