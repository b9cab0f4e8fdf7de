-- How the total changes when one node gains an arc. Assumes nothing.
use Rattle.std.proofs.Common.{◌≡◌, ℕ, zero, suc, ◌<◌, length, sym, refl, ap, subst, ⊎_elim, arith}
use Rattle.std.proofs.lemmas.Bool.{cases_eq}
use Rattle.triple.specs.Stores.{Lists, total}

-- what holds at s, and at each other number, holds at every number
pub at_each : (P : ℕ → Type 0) (s : ℕ) → P s → ((n : ℕ) → (n ≡ s → ⊥) → P n) → (n : ℕ) → P n
at_each P s here others n = ⊎_elim (λ (e : n ≡ s). subst P (sym e) here) (λ (d : n ≡ s → ⊥). others n d) (cases_eq n s)

pub total_same : (before after : Lists) (n : ℕ) → ((m : ℕ) → m < n → after m ≡ before m) → total n after ≡ total n before
total_same before after zero others = refl
total_same before after (suc n) others =
    let here = others n (omega arith) in
    let below = total_same before after n (λ m h. others m (omega arith)) in
    omega (arith, below, ap length here)

pub total_more : (before after : Lists) (s n : ℕ) → s < n → length (after s) ≡ suc (length (before s)) → ((m : ℕ) → (m ≡ s → ⊥) → after m ≡ before m) → total n after ≡ suc (total n before)
total_more before after s zero h one others = let z : ⊥ = omega arith in elim z [ ]
total_more before after s (suc n) h one others =
    ⊎_elim
    (λ (e : n ≡ s). let below = total_same before after n (λ m l. others m (λ q. omega arith)) in
    let here : length (after n) ≡ suc (length (before n)) = subst (λ m. length (after m) ≡ suc (length (before m))) (sym e) one in
    omega (arith, below, here))
    (λ (d : n ≡ s → ⊥). let below = total_more before after s n (omega arith) one others in
    omega (arith, below, ap length (others n d)))
    (cases_eq n s)
