-- The checks of a page's head, one after another. Assumes nothing.
use Rattle.std.proofs.Common.{◌≡◌, ℕ, suc, ◌+◌, ◌*◌, ◌/◌, ◌%◌, ◌<◌, ◌≤◌, Bool, true, false, cond, not, eqb, ltb, List, [], ◌∷◌, length, get_or, take, drop, Some, None, Ok, Err, sum, Option, Result, refl, ap, ◌∙◌, arith, rules}
use Rattle.std.proofs.lemmas.List.{length-take-le, length-drop, at_drop_more}
use Rattle.std.proofs.lemmas.Bool.{lt-ltb, le-ltb, eq-eqb, ne_eqb}
use mir.Syntax.{w16}
use Rattle.std.specs.Int.{from_le_bytes}
use Rattle.refusal.specs.declared.Layer.TheVariants.{Page}
use Rattle.page.specs.Faults.{Told, nothing, node}
use Rattle.page.specs.Loading.{wide, fan_refusal, page_refusal, answered, count_of, fan_bytes}

-- one more fan
pub wide_here : (fans : List ℕ) (i : ℕ) → i < length fans → 12 < get_or fans i 0 → wide (drop i fans) ≡ 0
wide_here fans i h above = at_drop_more wide fans i 0 h ∙ rw (lt-ltb 12 (get_or fans i 0) above) refl

pub wide_past : (fans : List ℕ) (i : ℕ) → i < length fans → get_or fans i 0 ≤ 12 → wide (drop i fans) ≡ suc (wide (drop (i + 1) fans))
wide_past fans i h below = at_drop_more wide fans i 0 h ∙ rw (le-ltb 12 (get_or fans i 0) below) refl

pub wide_found : (fans : List ℕ) (i s : ℕ) → i < length fans → wide fans ≡ i → ◌≡◌ {A = Result ℕ Told} (Err ((Page, 20), node i)) (answered (fan_refusal fans) s)
wide_found fans i s h e = rw (e, lt-ltb i (length fans) h) refl

pub wide_none : (fans : List ℕ) (s : ℕ) → wide fans ≡ length fans → ◌≡◌ {A = Result ℕ Told} (Ok s) (answered (fan_refusal fans) s)
wide_none fans s e = rw (e, le-ltb (length fans) (length fans) (omega arith)) refl

-- the two bytes of a count
pub read_count : (low high count n : ℕ) → count ≡ from_le_bytes w16 (low ∷ high ∷ []) → count ≡ n → low + 256 * high ≡ n
read_count low high count n read same = search rules

pub head_bytes : (n : ℕ) (bytes : List ℕ) → 2 ≤ length bytes → get_or bytes 0 0 < 256 → count_of bytes ≡ n → take 2 bytes ≡ n % 256 ∷ n / 256 ∷ []
head_bytes n [] h small e = let z : ⊥ = omega arith in elim z [ ]
head_bytes n (x ∷ []) h small e = let z : ⊥ = omega arith in elim z [ ]
head_bytes n (x ∷ y ∷ rest) h small e =
    let low : x ≡ n % 256 = omega arith in
    let high : y ≡ n / 256 = omega arith in
    cc

pub answered_err : (o : Option Told) (t : ℕ) (e : Told) → Err e ≡ answered o t → o ≡ Some e
answered_err None t e h = let z : ◌≡◌ {A = ℕ} 0 1 = cc in absurd (omega arith)
answered_err (Some x) t e h = cc

pub answered_ok : (o : Option Told) (s t : ℕ) → Ok t ≡ answered o s → (o ≡ None) × (t ≡ s)
answered_ok None s t h = (refl, cc)
answered_ok (Some x) s t h = let z : ◌≡◌ {A = ℕ} 0 1 = cc in absurd (omega arith)

-- two checks, where the first refuses, and where it passes
refuses : (b d : Bool) (x y : Told) (s : ℕ) (e : Told) → answered (cond b (Some x) None) s ≡ Err e → answered (cond b (Some x) (cond d (Some y) None)) s ≡ Err e
refuses true d x y s e h = h
refuses false d x y s e h = let z : ◌≡◌ {A = ℕ} 0 1 = cc in absurd (omega arith)

passes : (b d : Bool) (x y : Told) (s t : ℕ) → answered (cond b (Some x) None) s ≡ Ok t → (answered (cond b (Some x) (cond d (Some y) None)) s ≡ answered (cond d (Some y) None) s) × (s ≡ t)
passes true d x y s t h = let z : ◌≡◌ {A = ℕ} 0 1 = cc in absurd (omega arith)
passes false d x y s t h = (refl, cc)

-- a page that is long enough and has the right count
module _ (n : ℕ) (bytes : List ℕ) (long : 2 + n ≤ length bytes) (count : count_of bytes ≡ n) where
  pub fans_long : length (fan_bytes n bytes) ≡ n
  fans_long = length-take-le n (drop 2 bytes) (simp length-drop (omega arith))

  after_count : page_refusal n bytes
      ≡ cond (ltb (wide (fan_bytes n bytes)) (length (fan_bytes n bytes))) (Some ((Page, 20), node (wide (fan_bytes n bytes))))
      (cond (not (eqb (length bytes) (2 + n + 2 * sum (fan_bytes n bytes)))) (Some ((Page, 21), nothing)) None)
  after_count = rw fans_long (simp (le-ltb (length bytes) (2 + n) long, eq-eqb (count_of bytes) n count) refl)

  pub wide_refused : (e : Told) → answered (fan_refusal (fan_bytes n bytes)) (sum (fan_bytes n bytes)) ≡ Err e → answered (page_refusal n bytes) (sum (fan_bytes n bytes)) ≡ Err e
  wide_refused e h = ap (λ r. answered r (sum (fan_bytes n bytes))) after_count ∙ refuses _ _ _ _ _ e h

  pub length_refused : (t : ℕ) → answered (fan_refusal (fan_bytes n bytes)) (sum (fan_bytes n bytes)) ≡ Ok t → (length bytes ≡ 2 + n + 2 * t → ⊥)
      → answered (page_refusal n bytes) (sum (fan_bytes n bytes)) ≡ Err ((Page, 21), nothing)
  length_refused t h d =
      let both = passes _ (not (eqb (length bytes) (2 + n + 2 * sum (fan_bytes n bytes)))) _ ((Page, 21), nothing) _ t h in
      let other : eqb (length bytes) (2 + n + 2 * sum (fan_bytes n bytes)) ≡ false = ne_eqb _ _ (λ e. d (omega (arith, e, both.1))) in
      ap (λ r. answered r (sum (fan_bytes n bytes))) after_count ∙ both.0 ∙ rw other refl

  pub page_passed : (t : ℕ) → answered (fan_refusal (fan_bytes n bytes)) (sum (fan_bytes n bytes)) ≡ Ok t → length bytes ≡ 2 + n + 2 * t
      → answered (page_refusal n bytes) (sum (fan_bytes n bytes)) ≡ Ok t
  page_passed t h e =
      let both = passes _ (not (eqb (length bytes) (2 + n + 2 * sum (fan_bytes n bytes)))) _ ((Page, 21), nothing) _ t h in
      let same : eqb (length bytes) (2 + n + 2 * sum (fan_bytes n bytes)) ≡ true = eq-eqb _ _ (omega (arith, e, both.1)) in
      ap (λ r. answered r (sum (fan_bytes n bytes))) after_count ∙ both.0 ∙ rw same (ap Ok both.1)
