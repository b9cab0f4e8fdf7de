-- The row of a node in the bytes of the pairs.
use Rattle.std.proofs.Common.{◌≡◌, ℕ, ◌+◌, ◌-◌, ◌*◌, ◌<◌, ◌≤◌, ◌&&◌, min, not, Bool, true, false, eqb, ltb, List, length, get_or, take, drop, Decides, MatchBool, ap, ◌∙◌, refl, subst, ⊎_elim, add-mul, arith}
use Rattle.std.specs.List.{zip, slice_range, HoldsAt, AllWithin}
use Rattle.std.proofs.lemmas.Bool.{lt-ltb, cases_lt, false≢true}
use Rattle.std.proofs.lemmas.Bool.Decides.{Decides-and, Decides-eqb}
use Rattle.std.proofs.lemmas.List.{get_or-take, get_or-drop, length-take-le, length-drop}
use Rattle.std.proofs.Math.ListN.{get_or-eq_default}
use Rattle.std.proofs.lemmas.Nat.{mul-le, mod-mul-add, mul-add-lt}
use Rattle.std.proofs.lemmas.Slice.Zip.{length-zip, get_or-zip}
use Rattle.refine.specs.declared.due.Due.{Due}
use Rattle.refine.specs.Tables.{has_label}
use Rattle.refine.specs.Due.{is_due, is_cleared}

-- `any` by its items
decides_any : {X : Type 0} (Yes : X → Type 0) (d : X) (r : Bool) (xs : List X) → MatchBool r ((k : ℕ) × (k < length xs) × HoldsAt Yes xs k) (AllWithin (λ x. ¬ Yes x) xs 0 (length xs))
    → Decides r ((k : ℕ) × (k < length xs) × Yes (get_or xs k d))
decides_any Yes d true xs h = (λ _. (h.0, h.1, h.2 d), λ _. refl)
decides_any Yes d false xs h = (λ e. absurd (false≢true e), λ w. absurd (h w.0 d (omega arith) w.1 w.2))

pub get_or-mid : (x : List ℕ) (a n l : ℕ) → l < n → get_or (take n (drop a x)) l 0 ≡ get_or x (a + l) 0
get_or-mid x a n l h = get_or-take n (drop a x) l 0 h ∙ get_or-drop a x l 0

-- the items of three lists side by side
get_or-zips : (x y z : List ℕ) (k : ℕ) → k < length x → k < length y → k < length z → get_or (zip (zip x y) z) k ((0, 0), 0) ≡ ((get_or x k 0, get_or y k 0), get_or z k 0)
get_or-zips x y z k a b c =
    get_or-zip (zip x y) z k ((0, 0), 0) (omega (arith, length-zip x y)) c ∙ ap (λ (p : ℕ × ℕ). (p, get_or z k 0)) (get_or-zip x y k (0, 0) a b)

-- n has a bound of the row's, which begins at s and ends before e
module _ (due : Due) (node : ℕ) (bound : node < due.nodes) (s e : ℕ) (start : s ≡ node * due.labels) (end : e ≡ s + due.labels) where
  -- the wanted bytes of the row
  abbrev wanted : List ℕ
  wanted = slice_range due.wanted.now s e

  abbrev place : ℕ → ℕ
  place l = node * due.labels + l

  row_end : node * due.labels + due.labels ≤ due.nodes * due.labels
  row_end = omega (arith, add-mul node 1 due.labels, mul-le (node + 1) due.labels due.nodes due.labels (omega arith) (omega arith))

  wanted_long : length wanted ≡ due.labels
  wanted_long = omega (arith, length-take-le (e - s) (drop s due.wanted.now) (omega (arith, length-drop s due.wanted.now, row_end, due.wanted_long)))

  pub due_at : (l : ℕ) → l < due.labels → (eqb (get_or wanted l 0) 1 && eqb (get_or due.strata.now l 0) due.stratum) ≡ is_due due (place l)
  due_at l h =
      let below : ltb (place l) (due.nodes * due.labels) ≡ true = lt-ltb (place l) (due.nodes * due.labels) (omega (arith, mul-add-lt node due.labels l due.nodes bound h)) in
      let at : get_or wanted l 0 ≡ get_or due.wanted.now (place l) 0 = get_or-mid due.wanted.now s (e - s) l (omega arith) ∙ ap (λ s. get_or due.wanted.now (s + l) 0) start in
      rw (below, mod-mul-add node due.labels l h, at) refl

  pub cleared_at : (found : List Bool) (x : List ℕ) (l : ℕ) → l < due.labels
      → (eqb (get_or x l 0) 1 && ((eqb (get_or wanted l 0) 1 && eqb (get_or due.strata.now l 0) due.stratum) && not (has_label found l))) ≡ is_cleared due node found x l
  cleared_at found x l h = ap (λ b. eqb (get_or x l 0) 1 && (b && not (has_label found l))) (due_at l h)

  abbrev pub IsDue : (ℕ × ℕ) × ℕ → Type 0
  IsDue p = (p.0.0 ≡ 1) × (p.0.1 ≡ 1) × (p.1 ≡ due.stratum)

  decides_due_at : (l : ℕ) → l < due.labels → Decides (is_due due (place l)) ((get_or wanted l 0 ≡ 1) × (get_or due.strata.now l 0 ≡ due.stratum))
  decides_due_at l h =
      subst (λ b. Decides b ((get_or wanted l 0 ≡ 1) × (get_or due.strata.now l 0 ≡ due.stratum))) (due_at l h)
      (Decides-and (eqb (get_or wanted l 0) 1) (eqb (get_or due.strata.now l 0) due.stratum) (Decides-eqb (get_or wanted l 0) 1) (Decides-eqb (get_or due.strata.now l 0) due.stratum))

  -- the row's bytes, each with the wanted one and the stratum
  abbrev pub beside : List ℕ → List ((ℕ × ℕ) × ℕ)
  beside x = zip (zip x wanted) due.strata.now

  module _ (r : Bool) (x : List ℕ) (m : MatchBool r ((k : ℕ) × (k < length (beside x)) × HoldsAt IsDue (beside x) k) (AllWithin (λ p. ¬ IsDue p) (beside x) 0 (length (beside x)))) where
    long : length (beside x) ≡ min (length x) due.labels
    long = omega (arith, length-zip (zip x wanted) due.strata.now, length-zip x wanted, wanted_long, due.strata_long)

    at : (l : ℕ) → l < length x → l < due.labels → get_or (beside x) l ((0, 0), 0) ≡ ((get_or x l 0, get_or wanted l 0), get_or due.strata.now l 0)
    at l a b = get_or-zips x wanted due.strata.now l a (omega (arith, wanted_long)) (omega (arith, due.strata_long))

    pub decides_row : Decides r ((l : ℕ) × (l < due.labels) × (get_or x l 0 ≡ 1) × (is_due due (place l) ≡ true))
    decides_row = let any = decides_any IsDue ((0, 0), 0) r (beside x) m in (λ e. there (any.0 e), λ w. any.1 (back w))
      where
        there : (k : ℕ) × (k < length (beside x)) × IsDue (get_or (beside x) k ((0, 0), 0)) → (l : ℕ) × (l < due.labels) × (get_or x l 0 ≡ 1) × (is_due due (place l) ≡ true)
        there (k, h, p) =
            let inside : k < length x = omega (arith, long) in
            let below : k < due.labels = omega (arith, long) in
            let is = subst IsDue (at k inside below) p in
            (k, below, is.0, (decides_due_at k below).1 (is.1, is.2))

        inside : (l : ℕ) → get_or x l 0 ≡ 1 → l < length x
        inside l one = ⊎_elim (λ h. h) (λ past. absurd (omega (arith, get_or-eq_default x 0 {n = l} past))) (cases_lt l (length x))

        back : (l : ℕ) × (l < due.labels) × (get_or x l 0 ≡ 1) × (is_due due (place l) ≡ true) → (k : ℕ) × (k < length (beside x)) × IsDue (get_or (beside x) k ((0, 0), 0))
        back (l, h, one, d) =
            let is = (decides_due_at l h).0 d in
            (l, omega (arith, long, inside l one), rw (at l (inside l one) h) (one, is.0, is.1))
