-- Tests that decide whether arcs meet an expression and whether a node satisfies one.
use Rattle.std.proofs.Common.{◌≡◌, ℕ, zero, suc, ◌+◌, ◌-◌, ◌<◌, ◌≤◌, Bool, true, false, not as negate, ◌&&◌, ◌||◌, leb, List, [], ◌∷◌, length, Some, None, Decides, Option, sym, refl, subst, inl, inr, arith}
use native.Mathlib.Decide.{dec_le}
use Rattle.std.proofs.lemmas.Bool.Decides.{Decides-and, Decides-or, Decides-not, Decides-like, Decides-below_or}
use Rattle.std.proofs.lemmas.Bool.{leb-true, le-leb, and_parts, and_from}
use Rattle.shapes.specs.Expr.{Triple, empty, arc, each, some, times, Shape, value, hood, and, or, not, Schema}
use Rattle.shapes.specs.Lists.{Split, nil, left, right, Parts}
use Rattle.shapes.specs.Meaning.{Arcs, AtMost, Met, Satisfies}
use Rattle.shapes.specs.Typing.{Graph, Typing, In, Satisfied}
use Rattle.shapes.proofs.Lists.{split_nil, split_cons, parts_fewer}

pub false_is_not : {A : Type 0} → false ≡ true → A
false_is_not e = let z : ◌≡◌ {A = ℕ} 0 1 = cc in absurd (omega arith)

pub decides_itself : (b : Bool) → Decides b (b ≡ true)
decides_itself b = (λ e. e, λ e. e)

-- an answer, with what it says
pub answer : {P : Type 0} (b : Bool) → Decides b P → Dec P
answer true d = yes (d.0 refl)
answer false d = no (λ p. false_is_not (d.1 p))

pub decides_leb : (a b : ℕ) → Decides (leb a b) (a ≤ b)
decides_leb a b = (leb-true a b, le-leb a b)

abbrev is_nil : {A : Type 0} → List A → Bool
is_nil [] = true
is_nil (z ∷ zs) = false

decides_is_nil : {A : Type 0} (zs : List A) → Decides (is_nil zs) (zs ≡ [])
decides_is_nil [] = (λ e. refl, λ e. refl)
decides_is_nil (z ∷ zs) = (false_is_not, λ e. cc)

module _ {A : Type 0} where
  -- whether a list splits into two parts that pass q and r
  abbrev pub splits : List A → (List A → Bool) → (List A → Bool) → Bool
  splits [] q r = q [] && r []
  splits (a ∷ zs) q r = splits zs (λ xs. q (a ∷ xs)) r || splits zs q (λ ys. r (a ∷ ys))

  pub decides_splits : (zs : List A) (q r : List A → Bool) (Q R : List A → Type 0) → ((xs : List A) → Decides (q xs) (Q xs)) → ((ys : List A) → Decides (r ys) (R ys))
      → Decides (splits zs q r) ((xs ys : List A) × Split zs xs ys × Q xs × R ys)
  decides_splits [] q r Q R dq dr =
      Decides-like (q [] && r []) (λ h. ([], [], nil, h.0, h.1)) (λ h. split_nil Q R h.2 h.3 h.4) (Decides-and (q []) (r []) (dq []) (dr []))
  decides_splits (a ∷ zs) q r Q R dq dr =
      Decides-like (splits (a ∷ zs) q r)
      (elim [ inl h ↦ (a ∷ h.0, h.1, left h.2, h.3, h.4) | inr h ↦ (h.0, a ∷ h.1, right h.2, h.3, h.4) ])
      (λ h. split_cons Q R h.2 h.3 h.4)
      (Decides-or (splits zs (λ xs. q (a ∷ xs)) r) (splits zs q (λ ys. r (a ∷ ys)))
      (decides_splits zs (λ xs. q (a ∷ xs)) r (λ xs. Q (a ∷ xs)) R (λ xs. dq (a ∷ xs)) dr)
      (decides_splits zs q (λ ys. r (a ∷ ys)) Q (λ ys. R (a ∷ ys)) dq (λ ys. dr (a ∷ ys))))

  -- whether a list splits into k parts that pass q
  abbrev pub parts : (List A → Bool) → ℕ → List A → Bool
  parts q zero zs = is_nil zs
  parts q (suc k) zs = splits zs q (parts q k)

  pub decides_parts : (q : List A → Bool) (Q : List A → Type 0) → ((xs : List A) → Decides (q xs) (Q xs)) → (k : ℕ) (zs : List A) → Decides (parts q k zs) (Parts Q k zs)
  decides_parts q Q d zero zs = decides_is_nil zs
  decides_parts q Q d (suc k) zs = decides_splits zs q (parts q k) Q (Parts Q k) d (decides_parts q Q d k)

-- whether some number below m passes
abbrev pub any : (ℕ → Bool) → ℕ → Bool
any f zero = false
any f (suc m) = f m || any f m

pub decides_any : (f : ℕ → Bool) (P : ℕ → Type 0) → ((k : ℕ) → Decides (f k) (P k)) → (m : ℕ) → Decides (any f m) ((k : ℕ) × (k < m) × P k)
decides_any f P d m = Decides-below_or f P (any f) d refl (λ _. refl) m

abbrev at_most : ℕ → Option ℕ → Bool
at_most k (Some most) = leb k most
at_most k None = true

decides_at_most : (k : ℕ) (most : Option ℕ) → Decides (at_most k most) (AtMost k most)
decides_at_most k (Some most) = decides_leb k most
decides_at_most k None = (λ e. tt, λ h. refl)

pub at_most_less : (j k : ℕ) (most : Option ℕ) → j ≤ k → AtMost k most → AtMost j most
at_most_less j k (Some most) l h = omega arith
at_most_less j k None l h = tt

-- a repetition with more parts than least and the arcs together has one with just so many
pub times_within : {A : Type 0} (Q : List A → Type 0) (least : ℕ) (most : Option ℕ) (zs : List A)
    → (k : ℕ) × (least ≤ k) × AtMost k most × Parts Q k zs
    → (k : ℕ) × (k < suc (least + length zs)) × ((least ≤ k) × (AtMost k most × Parts Q k zs))
times_within Q least most zs (k, l, u, p) = pick (dec_le k (least + length zs))
  where
    pick : Dec (k ≤ least + length zs) → (k : ℕ) × (k < suc (least + length zs)) × ((least ≤ k) × (AtMost k most × Parts Q k zs))
    pick (yes h) = (k, omega arith, (l, (u, p)))
    pick (no h) =
        let top = least + length zs in
        let e : k ≡ (k - top) + top = omega arith in
        (top, omega arith, (omega arith, (at_most_less top k most (omega arith) u, parts_fewer Q (k - top) top zs (omega arith) (subst (λ n. Parts Q n zs) e p))))

-- whether the list is one arc that passes
abbrev one_arc : (ℕ → ℕ → Bool) → Arcs → Bool
one_arc f [] = false
one_arc f ((p, o) ∷ []) = f p o
one_arc f (a ∷ b ∷ zs) = false

module _ (sets : ℕ → ℕ → Bool) (τ : Typing) where
  decides_one_arc : (s l : ℕ) (zs : Arcs) → Decides (one_arc (λ p o. sets s p && τ o l) zs) (Met sets (In τ) (arc s l) zs)
  decides_one_arc s l zs =
      (there zs, λ h. subst (λ z. one_arc (λ p o. sets s p && τ o l) z ≡ true) (sym h.2) (and_from (sets s h.0) (τ h.1 l) h.3 h.4))
    where
      there : (zs : Arcs) → one_arc (λ p o. sets s p && τ o l) zs ≡ true → Met sets (In τ) (arc s l) zs
      there [] h = false_is_not h
      there ((p, o) ∷ []) h = let g = and_parts (sets s p) (τ o l) h in (p, o, refl, g.0, g.1)
      there (a ∷ b ∷ zs) h = false_is_not h

  -- whether the arcs meet a triple expression under a typing
  abbrev pub met : Triple → Arcs → Bool
  met empty zs = is_nil zs
  met (arc s l) zs = one_arc (λ p o. sets s p && τ o l) zs
  met (each x y) zs = splits zs (met x) (met y)
  met (some x y) zs = met x zs || met y zs
  met (times x least most) zs = any (λ k. leb least k && (at_most k most && parts (met x) k zs)) (suc (least + length zs))

  pub decides_met : (e : Triple) (zs : Arcs) → Decides (met e zs) (Met sets (In τ) e zs)
  decides_met empty zs = decides_is_nil zs
  decides_met (arc s l) zs = decides_one_arc s l zs
  decides_met (each x y) zs = decides_splits zs (met x) (met y) (Met sets (In τ) x) (Met sets (In τ) y) (decides_met x) (decides_met y)
  decides_met (some x y) zs = Decides-or (met x zs) (met y zs) (decides_met x zs) (decides_met y zs)
  decides_met (times x least most) zs =
      let Q = Met sets (In τ) x in
      Decides-like (met (times x least most) zs) (λ h. (h.0, h.2.0, h.2.1.0, h.2.1.1)) (times_within Q least most zs)
      (decides_any (λ k. leb least k && (at_most k most && parts (met x) k zs)) (λ k. (least ≤ k) × (AtMost k most × Parts Q k zs))
      (λ k. Decides-and (leb least k) (at_most k most && parts (met x) k zs) (decides_leb least k)
      (Decides-and (at_most k most) (parts (met x) k zs) (decides_at_most k most) (decides_parts (met x) Q (decides_met x) k zs)))
      (suc (least + length zs)))

  module _ (passes : ℕ → Bool) (zs : Arcs) where
    -- whether a node satisfies a shape expression under a typing
    abbrev pub satisfies : Shape → Bool
    satisfies (value t) = passes t
    satisfies (hood e) = met e zs
    satisfies (and a b) = satisfies a && satisfies b
    satisfies (or a b) = satisfies a || satisfies b
    satisfies (not a) = negate (satisfies a)

    pub decides_satisfies : (s : Shape) → Decides (satisfies s) (Satisfies sets (In τ) passes zs s)
    decides_satisfies (value t) = decides_itself (passes t)
    decides_satisfies (hood e) = decides_met e zs
    decides_satisfies (and a b) = Decides-and (satisfies a) (satisfies b) (decides_satisfies a) (decides_satisfies b)
    decides_satisfies (or a b) = Decides-or (satisfies a) (satisfies b) (decides_satisfies a) (decides_satisfies b)
    decides_satisfies (not a) = Decides-not (satisfies a) (decides_satisfies a)

module _ (S : Schema) (G : Graph) where
  abbrev pub satisfied : Typing → Typing
  satisfied τ n l = satisfies S.sets τ (G.passes n) (G.arcs n) (S.definition l)

  pub decides_satisfied : (τ : Typing) (n l : ℕ) → Decides (satisfied τ n l) (Satisfied S G (In τ) n l)
  decides_satisfied τ n l = decides_satisfies S.sets τ (G.passes n) (G.arcs n) (S.definition l)
