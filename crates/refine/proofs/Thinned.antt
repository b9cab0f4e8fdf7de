-- A table in which the row of one node lost pairs.
use Rattle.std.proofs.Common.{◌≡◌, ℕ, ◌+◌, ◌-◌, ◌*◌, ◌<◌, ◌≤◌, ◌&&◌, not, Bool, true, false, cond, eqb, suc, zero, ◌⊎◌, List, [], ◌∷◌, length, ◌++◌, get_or, take, drop, sum, ap, ◌∙◌, refl, inl, inr, ⊎_elim, arith}
use borrow.Rule.Slice.PartMut.{put_mid}
use Rattle.std.proofs.lemmas.Bool.{and_parts, and_from, both_ways, cases_Bool, cases_lt, cond-true, cond-false, eqb-true, eq-eqb, false_from_ne_true, true_from_ne_false, not_from_true, not_from_false}
use Rattle.std.proofs.lemmas.List.{take-append-drop}
use Rattle.std.proofs.lemmas.List.Sums.{sum_by-cons}
use Rattle.refine.specs.declared.due.Due.{Due}
use Rattle.refine.specs.Tables.{has_label}
use Rattle.refine.specs.Due.{is_due, is_cleared, Cleared}
use Rattle.refine.proofs.Writing.{put_inside, put_outside}
use Rattle.refine.proofs.Rows.{get_or-mid}

-- sums of bytes of which none grew, and one shrank
sum_le : (x y : List ℕ) → ((k : ℕ) → get_or y k 0 ≤ get_or x k 0) → sum y ≤ sum x
sum_le x [] h = omega arith
sum_le [] (b ∷ y) h = omega (arith, sum_by-cons (λ n. n) b y, h 0, sum_le [] y (λ k. h (suc k)))
sum_le (a ∷ x) (b ∷ y) h = omega (arith, sum_by-cons (λ n. n) a x, sum_by-cons (λ n. n) b y, h 0, sum_le x y (λ k. h (suc k)))

sum_less : (x y : List ℕ) → ((k : ℕ) → get_or y k 0 ≤ get_or x k 0) → (k : ℕ) → get_or y k 0 < get_or x k 0 → sum y < sum x
sum_less [] y h k less = absurd (omega arith)
sum_less (a ∷ x) [] h zero less = omega (arith, sum_by-cons (λ n. n) a x)
sum_less (a ∷ x) [] h (suc k) less = omega (arith, sum_by-cons (λ n. n) a x, sum_less x [] (λ k. h (suc k)) k less)
sum_less (a ∷ x) (b ∷ y) h zero less = omega (arith, sum_by-cons (λ n. n) a x, sum_by-cons (λ n. n) b y, sum_le x y (λ k. h (suc k)))
sum_less (a ∷ x) (b ∷ y) h (suc k) less = omega (arith, sum_by-cons (λ n. n) a x, sum_by-cons (λ n. n) b y, h 0, sum_less x y (λ k. h (suc k)) k less)

-- the byte at k is that of a due pair of the node o, in x and not in y, whose label is not found; L is the number of labels
pub record Taken (due : Due) (L o : ℕ) (found : List Bool) (x y : List ℕ) (k : ℕ) : Type 0 where
  pub label : ℕ
  pub bound : label < L
  pub at : k ≡ o * L + label
  pub is_due : is_due due k ≡ true
  pub not_found : has_label found label ≡ false
  pub after : get_or y k 0 ≡ 0

-- y is x without some such pairs, and each due pair of o that is left is found
pub record Thinned (due : Due) (L o : ℕ) (found : List Bool) (x : List ℕ) (any : Bool) (y : List ℕ) : Type 0 where
  pub change : (k : ℕ) → (get_or y k 0 ≡ get_or x k 0) ⊎ Taken due L o found x y k
  pub left : (l : ℕ) → l < L → is_due due (o * L + l) ≡ true → get_or y (o * L + l) 0 ≡ 1 → has_label found l ≡ true
  pub same : any ≡ false → y ≡ x
  pub fewer : any ≡ true → sum y < sum x

module _ (due : Due) (o : ℕ) (found : List Bool) (x row : List ℕ) (any : Bool) (a n : ℕ) (start : a ≡ o * due.labels) (size : n ≡ due.labels) (long : a + n ≤ length x)
    (same : length row ≡ n) (c : Cleared due o found (take n (drop a x)) any row) where
  abbrev y : List ℕ
  y = put_mid a n x row

  abbrev is : ℕ → Bool
  is = is_cleared due o found (take n (drop a x))

  y_at : (l : ℕ) → l < n → get_or y (a + l) 0 ≡ cond (is l) 0 (get_or (take n (drop a x)) l 0)
  y_at l h = put_inside x row a n long same 0 (a + l) l refl h ∙ c.bytes l (omega arith)

  cleared_parts : (l : ℕ) → is l ≡ true → (get_or (take n (drop a x)) l 0 ≡ 1) × (is_due due (o * due.labels + l) ≡ true) × (has_label found l ≡ false)
  cleared_parts l e =
      let p = and_parts (eqb (get_or (take n (drop a x)) l 0) 1) (is_due due (o * due.labels + l) && not (has_label found l)) e in
      let q = and_parts (is_due due (o * due.labels + l)) (not (has_label found l)) p.1 in
      (eqb-true _ 1 p.0, q.0, false_from_ne_true (has_label found l) (λ t. both_ways (not (has_label found l)) (not_from_true _ t) q.1))

  change_at : (l : ℕ) → l < n → (is l ≡ true) ⊎ (is l ≡ false) → (get_or y (a + l) 0 ≡ get_or x (a + l) 0) ⊎ Taken due due.labels o found x y (a + l)
  change_at l h (inr e) = inl (y_at l h ∙ cond-false (is l) 0 (get_or (take n (drop a x)) l 0) e ∙ get_or-mid x a n l h)
  change_at l h (inl e) =
      let p = cleared_parts l e in
      inr (record {
        label = l;
        bound = omega arith;
        at = omega arith;
        is_due = ap (λ a. is_due due (a + l)) start ∙ p.1;
        not_found = p.2;
        after = y_at l h ∙ cond-true (is l) 0 (get_or (take n (drop a x)) l 0) e;
      })

  change : (k : ℕ) → (k < a) ⊎ (a ≤ k) → (k < a + n) ⊎ (a + n ≤ k) → (get_or y k 0 ≡ get_or x k 0) ⊎ Taken due due.labels o found x y k
  change k (inl h) _ = inl (put_outside x row a n long same 0 k (inl h))
  change k (inr h) (inr g) = inl (put_outside x row a n long same 0 k (inr g))
  change k (inr h) (inl g) = let e : a + (k - a) ≡ k = omega arith in rw (← e) (change_at (k - a) (omega arith) (cases_Bool (is (k - a))))

  left : (l : ℕ) → l < due.labels → is_due due (o * due.labels + l) ≡ true → get_or y (o * due.labels + l) 0 ≡ 1 → has_label found l ≡ true
  left l h d one = true_from_ne_false (has_label found l) (λ miss. at miss (cases_Bool (is l)))
    where
      at : has_label found l ≡ false → (is l ≡ true) ⊎ (is l ≡ false) → ⊥
      at miss (inl e) = omega (arith, one, ap (λ b. get_or y (b + l) 0) start, y_at l (omega arith), cond-true (is l) 0 (get_or (take n (drop a x)) l 0) e)
      at miss (inr e) =
          both_ways (is l) e (and_from (eqb (get_or (take n (drop a x)) l 0) 1) (is_due due (o * due.labels + l) && not (has_label found l))
          (eq-eqb _ 1 (omega (arith, one, ap (λ b. get_or y (b + l) 0) start, y_at l (omega arith), cond-false (is l) 0 (get_or (take n (drop a x)) l 0) e)))
          (and_from (is_due due (o * due.labels + l)) (not (has_label found l)) d (not_from_false _ miss)))

  pub thinned : Thinned due due.labels o found x any y
  thinned =
      record {
        change = λ k. change k (cases_lt k a) (cases_lt k (a + n));
        left = left;
        same = λ e. ap (λ r. put_mid a n x r) (c.same e) ∙ ap (λ r. take a x ++ r) (take-append-drop n (drop a x)) ∙ take-append-drop a x;
        fewer = λ e. let m = c.some e in sum_less x y (λ k. ⊎_elim (λ e. omega arith) (λ t. omega (arith, t.after)) (change k (cases_lt k a) (cases_lt k (a + n)))) (a + m.0)
            (omega (arith, y_at m.0 (omega (arith, m.1)), cond-true (is m.0) 0 (get_or (take n (drop a x)) m.0 0) m.2, (cleared_parts m.0 m.2).0, get_or-mid x a n m.0 (omega (arith, m.1))));
      }
