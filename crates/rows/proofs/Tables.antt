-- Tables of rows of which one is filled or freed, and the rows that a store uses. Assumes nothing.
use Rattle.std.proofs.Common.{◌≡◌, ℕ, zero, suc, ◌<◌, ◌≤◌, min, Bool, true, false, cond, ◌&&◌, ◌||◌, eqb, ◌+◌, ◌%◌, ◌^◌, List, [], ◌∷◌, ◌++◌, length, get_or, take, drop, set, replicate, is_some, Some, None, Option, sym, refl, ap, ◌∙◌, ⊎_elim, arith, Contains, MatchOption}
use lib.Seq.{take-set-lt}
use Rattle.std.specs.List.{fold, cons_option, list_any}
use Rattle.std.proofs.lemmas.List.{take_all, drop_all, take_at, drop_at, append-nil, set_split, set-get_or, length-set, length-take, length-drop, length-append, length-replicate, nil_from_length}
use Rattle.std.proofs.lemmas.List.Elements.{filter_map-append}
use Rattle.std.proofs.lemmas.List.Sums.{sum_by-cons, sum_by-set, count_by-le-length}
use Rattle.std.proofs.lemmas.Bool.{cases_lt, cases_Bool, eq-eqb, eqb-true, ne_eqb}
use Rattle.triple.specs.Arcs.{Arc, has, same}
use Rattle.triple.specs.Stores.{total, Lawful}
use Rattle.triple.specs.declared.store.Triple.{Triple}
use Rattle.triple.proofs.Changes.{same_true, total_none}
use Rattle.triple.proofs.Totals.{total_more}
use Rattle.rows.specs.declared.store.RowStore.{RowStore}
use Rattle.rows.specs.Table.{full, free, arc_of, used, arcs_in, arcs_of}
use Rattle.rows.proofs.Gains.{Gains, gains_present}

-- the arcs where a row is set

arcs_set : (n : ℕ) (rows : List (Option Triple)) (i : ℕ) (row : Option Triple) → i < length rows → arcs_in n (set rows i row) ≡ arcs_in n (take i rows) ++ arcs_in n (row ∷ drop (suc i) rows)
arcs_set n rows i row l = ap (arcs_in n) (set_split rows i row l) ∙ filter_map-append (arc_of n) (take i rows) (row ∷ drop (suc i) rows)

-- the row i of a table, free in the one and full in the other
table_gains : (rows before after : List (Option Triple)) (i s p o : ℕ) → i < length rows → before ≡ set rows i free → after ≡ set rows i (full s p o) → Gains (λ n. arcs_in n before) (λ n. arcs_in n after) s p o
table_gains rows before after i s p o l vacant taken =
    record {
      left = arcs_in s (take i rows);
      right = arcs_in s (drop (suc i) rows);
      without = ap (arcs_in s) vacant ∙ arcs_set s rows i free l;
      with = ap (arcs_in s) taken ∙ arcs_set s rows i (full s p o) l ∙ rw (eq-eqb s s refl) refl;
      others = λ n d. ap (arcs_in n) taken ∙ arcs_set n rows i (full s p o) l ∙ rw (ne_eqb s n (λ q. d (sym q))) (sym (ap (arcs_in n) vacant ∙ arcs_set n rows i free l));
    }

-- the first 1,024 rows

pub take_front : (rows : List (Option Triple)) (n : ℕ) → n ≡ min (length rows) 1024 → take (n) rows ≡ take 1024 rows
take_front rows n e =
    ⊎_elim
    (λ (h : length rows < 1024). take_all (n) rows (omega arith) ∙ sym (take_all 1024 rows (omega arith)))
    (λ (h : 1024 ≤ length rows). let whole : n ≡ 1024 = omega arith in ap (λ k. take k rows) whole)
    (cases_lt (length rows) 1024)

drop_front : (rows : List (Option Triple)) (n : ℕ) → n ≡ min (length rows) 1024 → drop (n) rows ≡ drop 1024 rows
drop_front rows n e =
    ⊎_elim
    (λ (h : length rows < 1024). drop_all (n) rows (omega arith) ∙ sym (drop_all 1024 rows (omega arith)))
    (λ (h : 1024 ≤ length rows). let whole : n ≡ 1024 = omega arith in ap (λ k. drop k rows) whole)
    (cases_lt (length rows) 1024)

pub length_front : (rows : List (Option Triple)) → length (take 1024 rows) ≡ min (length rows) 1024
length_front rows = omega (arith, length-take 1024 rows)

module _ (rows : List (Option Triple)) (i s p o : ℕ) (l : i < length (take 1024 rows)) where
  front_set : (row : Option Triple) → take 1024 (set rows i row) ≡ set (take 1024 rows) i row
  front_set row = take-set-lt 1024 rows i row (omega (arith, length_front rows))

  -- a row set to what it holds
  front_same : (row : Option Triple) → get_or (take 1024 rows) i free ≡ row → take 1024 rows ≡ set (take 1024 rows) i row
  front_same row e = sym (ap (set (take 1024 rows) i) (sym e) ∙ set-get_or (take 1024 rows) i free)

  pub put_gains : get_or (take 1024 rows) i free ≡ free → Gains (arcs_of rows) (arcs_of (set rows i (full s p o))) s p o
  put_gains e = table_gains (take 1024 rows) _ _ i s p o l (front_same free e) (front_set (full s p o))

  pub take_gains : get_or (take 1024 rows) i free ≡ full s p o → Gains (arcs_of (set rows i free)) (arcs_of rows) s p o
  take_gains e = table_gains (take 1024 rows) _ _ i s p o l (front_set free) (front_same (full s p o) e)

-- rows that are not in a table

later : (x row : Option Triple) (rows : List (Option Triple)) → ¬ Contains (x ∷ rows) row → ¬ Contains rows row
later x row rows none c = none (suc c.0, omega (arith, c.1), c.2)

pub none_has : (rows : List (Option Triple)) (s p o : ℕ) → ¬ Contains rows (full s p o) → has p o (arcs_in s rows) ≡ false
none_has [] s p o none = refl
none_has (None ∷ rows) s p o none = none_has rows s p o (later None (full s p o) rows none)
none_has (Some t ∷ rows) s p o none =
    let rest = none_has rows s p o (later (Some t) (full s p o) rows none) in
    ⊎_elim
    (λ (e : eqb t.subject s ≡ true).
    ⊎_elim
    (λ (q : same (t.property, t.object) p o ≡ true). absurd (none (0, omega arith, held t (eqb-true _ _ e) (same_true _ p o q))))
    (λ (q : same (t.property, t.object) p o ≡ false). rw (e, q) rest)
    (cases_Bool (same (t.property, t.object) p o)))
    (λ (e : eqb t.subject s ≡ false). rw e rest)
    (cases_Bool (eqb t.subject s))
  where
    held : (t : Triple) → t.subject ≡ s → ◌≡◌ {A = Arc} (t.property, t.object) (p, o) → Some t ≡ full s p o
    held t e q = ap (λ x. full x t.property t.object) e ∙ ap (λ (a : Arc). full s a.0 a.1) q

-- what a test of each row says, where it is of a triple
pub any_has : (alike : Option Triple → Bool) (s p o : ℕ) → alike None ≡ false → ((t : Triple) → alike (Some t) ≡ (eqb t.subject s && same (t.property, t.object) p o))
    → (rows : List (Option Triple)) → list_any alike rows ≡ has p o (arcs_in s rows)
any_has alike s p o none some [] = refl
any_has alike s p o none some (None ∷ rows) = rw none (any_has alike s p o none some rows)
any_has alike s p o none some (Some t ∷ rows) =
    ⊎_elim
    (λ (e : eqb t.subject s ≡ true). rw (some t, e) (ap (λ b. same (t.property, t.object) p o || b) (any_has alike s p o none some rows)))
    (λ (e : eqb t.subject s ≡ false). rw (some t, e) (any_has alike s p o none some rows))
    (cases_Bool (eqb t.subject s))

-- what a search for a row says of its triple
pub found_present : (rows : List (Option Triple)) (s p o : ℕ) (found : Option ℕ)
    → MatchOption found (¬ Contains (take 1024 rows) (full s p o)) (λ i. (i < length (take 1024 rows)) × (get_or (take 1024 rows) i free ≡ full s p o))
    → is_some found ≡ has p o (arcs_of rows s)
found_present rows s p o None none = sym (none_has (take 1024 rows) s p o none)
found_present rows s p o (Some i) (l, e) = sym (gains_present _ _ s p o (take_gains rows i s p o l e))

pub none_free : (rows : List (Option Triple)) → ¬ Contains rows free → used rows ≡ length rows
none_free [] none = refl
none_free (None ∷ rows) none = absurd (none (0, omega arith, refl))
none_free (Some t ∷ rows) none = omega (arith, sum_by-cons (λ row. cond (is_some row) 1 0) (Some t) rows, none_free rows (later (Some t) free rows none))

-- how many rows hold a triple

length_cons : (arc : Option Arc) (arcs : List Arc) → length (cons_option arc arcs) ≡ cond (is_some arc) 1 0 + length arcs
length_cons None arcs = omega arith
length_cons (Some arc) arcs = omega arith

-- the arcs of a node, counted row by row in a number that could wrap
counted_from : (n : ℕ) (rows : List (Option Triple)) (a : ℕ) → a + length rows < 2 ^ 64
    → fold (λ a row. cond (is_some (arc_of n row)) ((a + 1) % 2 ^ 64) a) a rows ≡ a + length (arcs_in n rows)
counted_from n [] a l = omega arith
counted_from n (row ∷ rows) a l =
    ⊎_elim
    (λ (e : is_some (arc_of n row) ≡ true). rw e (let small : (a + 1) % 2 ^ 64 ≡ a + 1 = omega arith in rw small (omega (arith, counted_from n rows (a + 1) (omega arith), longer e))))
    (λ (e : is_some (arc_of n row) ≡ false). rw e (omega (arith, counted_from n rows a (omega arith), same_length e)))
    (cases_Bool (is_some (arc_of n row)))
  where
    longer : is_some (arc_of n row) ≡ true → length (arcs_in n (row ∷ rows)) ≡ 1 + length (arcs_in n rows)
    longer e = length_cons (arc_of n row) (arcs_in n rows) ∙ rw e refl

    same_length : is_some (arc_of n row) ≡ false → length (arcs_in n (row ∷ rows)) ≡ length (arcs_in n rows)
    same_length e = length_cons (arc_of n row) (arcs_in n rows) ∙ rw e (omega arith)

pub arcs_counted : (n : ℕ) (rows : List (Option Triple)) → length rows < 2 ^ 64 → fold (λ a row. cond (is_some (arc_of n row)) ((a + 1) % 2 ^ 64) a) 0 rows ≡ length (arcs_in n rows)
arcs_counted n rows l = omega (arith, counted_from n rows 0 (omega arith))

-- each triple has a subject below the node count, so the triples are the arcs of the nodes
pub used_total : (nodes : ℕ) (rows : List (Option Triple)) → ((n : ℕ) → nodes ≤ n → length (arcs_in n rows) ≡ 0) → used rows ≡ total nodes (λ n. arcs_in n rows)
used_total nodes [] past = sym (total_none (λ n. []) nodes (λ n. refl))
used_total nodes (None ∷ rows) past = omega (arith, sum_by-cons (λ (row : Option Triple). cond (is_some row) 1 0) None rows, used_total nodes rows past)
used_total nodes (Some t ∷ rows) past =
    let row = Some t in
    let s = t.subject in
    let longer : length (arcs_in s (row ∷ rows)) ≡ suc (length (arcs_in s rows)) = rw (eq-eqb s s refl) refl in
    let skip : (n : ℕ) → (n ≡ s → ⊥) → arcs_in n (row ∷ rows) ≡ arcs_in n rows = λ n d. rw (ne_eqb s n (λ q. d (sym q))) refl in
    let below : s < nodes = ⊎_elim (λ (h : s < nodes). h) (λ (h : nodes ≤ s). let none = past s h in absurd (omega arith)) (cases_lt s nodes) in
    let rest = used_total nodes rows (λ n h. ap length (sym (skip n (omega arith))) ∙ past n h) in
    omega (arith, sum_by-cons (λ (row : Option Triple). cond (is_some row) 1 0) row rows, rest, total_more (λ n. arcs_in n rows) (λ n. arcs_in n (row ∷ rows)) s nodes below longer skip)

pub used_below : (rows : List (Option Triple)) (i : ℕ) → i < length rows → get_or rows i free ≡ free → used rows < length rows
used_below rows i l e =
    let row = full 0 0 0 in
    let more = sum_by-set (λ (row : Option Triple). cond (is_some row) 1 0) rows i row free l in
    let one : ◌≡◌ {A = ℕ} (cond (is_some (get_or rows i free)) 1 0) 0 = rw e refl in
    omega (arith, more, one, count_by-le-length is_some (set rows i row), length-set rows i row)

-- free rows

arcs_free : (n k : ℕ) → arcs_in n (replicate k free) ≡ []
arcs_free n zero = refl
arcs_free n (suc k) = arcs_free n k

front_free : (rows : List (Option Triple)) → take 1024 (replicate (min (length rows) 1024) free ++ drop 1024 rows) ≡ replicate (min (length rows) 1024) free
front_free rows =
    let k = min (length rows) 1024 in
    ⊎_elim
    (λ (h : length rows < 1024). rw (drop_all 1024 rows (omega arith), append-nil (replicate k free)) (take_all 1024 (replicate k free) (omega (arith, length-replicate k free))))
    (λ (h : 1024 ≤ length rows). take_at (replicate k free) (drop 1024 rows) 1024 (omega (arith, length-replicate k free)))
    (cases_lt (length rows) 1024)

-- the table after the first n rows, which are those that a store uses, were freed
pub made : (rows front : List (Option Triple)) (n : ℕ) → n ≡ min (length rows) 1024 → front ≡ replicate (length (take (n) rows)) free
    → front ++ drop (n) rows ≡ replicate (min (length rows) 1024) free ++ drop 1024 rows
made rows front n e f =
    let size : length (take (n) rows) ≡ min (length rows) 1024 = omega (arith, e, length-take (n) rows) in
    ap (λ xs. xs ++ drop (n) rows) (f ∙ ap (λ k. replicate k free) size) ∙ ap (λ xs. replicate (min (length rows) 1024) free ++ xs) (drop_front rows n e)

pub length_made : (rows : List (Option Triple)) → length (replicate (min (length rows) 1024) free ++ drop 1024 rows) ≡ length rows
length_made rows = simp (length-append, length-replicate, length-drop) (omega arith)

pub drop_made : (rows : List (Option Triple)) → drop 1024 (replicate (min (length rows) 1024) free ++ drop 1024 rows) ≡ drop 1024 rows
drop_made rows =
    let k = min (length rows) 1024 in
    ⊎_elim
    (λ (h : length rows < 1024). drop_all 1024 (replicate k free ++ drop 1024 rows) (omega (arith, length_made rows)) ∙ sym (drop_all 1024 rows (omega arith)))
    (λ (h : 1024 ≤ length rows). drop_at (replicate k free) (drop 1024 rows) 1024 (omega (arith, length-replicate k free)))
    (cases_lt (length rows) 1024)

pub arcs_none : (rows : List (Option Triple)) (n : ℕ) → arcs_of (replicate (min (length rows) 1024) free ++ drop 1024 rows) n ≡ []
arcs_none rows n = ap (arcs_in n) (front_free rows) ∙ arcs_free n (min (length rows) 1024)

-- the facts of the struct's ghost fields
pub lawful_in : (m : RowStore) → Lawful m.nodes (min (length m.rows.now) 1024) (arcs_of m.rows.now)
lawful_in m = record { small = m.small; few = m.few; apart = m.apart; within = m.within; past = λ n h. nil_from_length _ (m.past n h); room = m.room }
