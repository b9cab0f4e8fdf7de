-- Tables of flags that a loop fills.
use Rattle.std.proofs.Common.{◌≡◌, ℕ, zero, suc, ◌+◌, ◌-◌, ◌^◌, ◌<◌, Bool, true, false, ◌≢◌, ◌↔◌, List, ◌++◌, length, get_or, set, replicate, sym, refl, ap, ◌∙◌, subst, inl, inr, arith, get_or-set_other, get_or-set_same}
use Rattle.std.proofs.Math.ListN.{get_or-append}
use lib.ListN.{get_or-replicate, length-replicate}
use Rattle.std.proofs.lemmas.Bool.{cases_eq}
use Rattle.masks.specs.Masks.{On, Among}

pub either : {A B C : Type 0} → A ↔ B → B ↔ C → A ↔ C
either f g = (λ a. g.0 (f.0 a), λ c. f.1 (g.1 c))

pub not_on : {A : Type 0} {b : Bool} → b ≡ false → b ≡ true → A
not_on e f = let z : ◌≡◌ {A = ℕ} 0 1 = cc in absurd (omega arith)

-- an element of a front part that was filled
pub filled : {A : Type 0} (v : A) (n : ℕ) (xs rest : List A) (m : ℕ) → xs ≡ replicate n v → m < n → get_or (xs ++ rest) m v ≡ v
filled v n xs rest m e h =
    let l : m < length xs = omega (arith, ap length e ∙ length-replicate n v) in
    get_or-append xs rest v m l ∙ ap (λ l. get_or l m v) e ∙ get_or-replicate n m v v h

-- one more flag
pub flag_more : (P : ℕ → Type 0) (c : List Bool) (m : ℕ) (v : Bool) → m < length c → ((k : ℕ) → k < m → On c k ↔ P k) → (v ≡ true) ↔ P m
    → (k : ℕ) → k < m + 1 → On (set c m v) k ↔ P k
flag_more P c m v l f g k h =
    elim (cases_eq k m) [
      | inl e ↦ subst (λ k. On (set c m v) k ↔ P k) (sym e) (rw get_or-set_same g)
      | inr d ↦ (let ne : k ≢ m = d in rw get_or-set_other (f k (omega arith)))
    ]

-- the flags below q say P, and no other flag is set
abbrev pub Upto : (ℕ → Type 0) → ℕ → List Bool → Type 0
Upto P q c = (k : ℕ) → On c k ↔ ((k < q) × P k)

none_on : (n k : ℕ) → get_or (replicate n false) k false ≡ false
none_on zero k = refl
none_on (suc n) zero = refl
none_on (suc n) (suc k) = none_on n k

pub upto_none : (P : ℕ → Type 0) (n : ℕ) → Upto P 0 (replicate n false)
upto_none P n k = (λ o. not_on (none_on n k) o, λ x. absurd (omega (arith, x.0)))

pub upto_more : (P : ℕ → Type 0) (q : ℕ) (c : List Bool) (v : Bool) → q < length c → (v ≡ true) ↔ P q → Upto P q c → Upto P (q + 1) (set c q v)
upto_more P q c v l e f k =
    elim (cases_eq k q) [
      | inl w ↦ subst (λ k. On (set c q v) k ↔ ((k < q + 1) × P k)) (sym w) (rw get_or-set_same (λ o. (omega arith, e.0 o), λ x. e.1 x.1))
      | inr d ↦
          (let ne : k ≢ q = d in
          rw get_or-set_other (λ o. (let x = (f k).0 o in (omega (arith, x.0), x.1)), λ x. (f k).1 (omega (arith, x.0), x.1)))
    ]

-- one more place, not marked or marked
pub among_more : (t : List Bool) (n j k : ℕ) → (On t j → ⊥) → Among t n j k ↔ Among t n (j + 1) k
among_more t n j k h = (
  λ x. (x.0, omega (arith, x.1), x.2, x.3),
  λ x. (x.0, (let ne : x.0 ≡ j → ⊥ = λ e. h (subst (On t) e x.2) in omega (arith, ne, x.1)), x.2, x.3),
)

pub among_set : (t c : List Bool) (n j h k : ℕ) → h < length c → h ≡ 2 ^ (n - 1 - j) → On t j → On c k ↔ Among t n j k
    → On (set c h true) k ↔ Among t n (j + 1) k
among_set t c n j h k l e g f =
    elim (cases_eq k h) [
      | inl y ↦ (let w : h ≡ k = omega arith in
          subst (λ k. On (set c h true) k ↔ Among t n (j + 1) k) w (λ _. (j, omega arith, g, e), λ _. get_or-set_same c h true false l))
      | inr y ↦
          (let ne : k ≢ h = y in
          rw get_or-set_other (
            λ o. (let x = f.0 o in (x.0, omega (arith, x.1), x.2, x.3)),
            λ x. f.1 (x.0, (let ne : x.0 ≡ j → ⊥ = λ i. y (x.3 ∙ ap (λ i. 2 ^ (n - 1 - i)) i ∙ sym e) in omega (arith, ne, x.1)), x.2, x.3),
          ))
    ]
