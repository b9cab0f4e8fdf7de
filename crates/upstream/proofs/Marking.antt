-- Marking nodes, one after another, until nothing waits. Assumes nothing.
use Rattle.std.proofs.Common.{◌≡◌, ℕ, zero, suc, ◌+◌, ◌<◌, ◌≤◌, Bool, true, false, cond, not, ltb, ◌⊎◌, List, [], ◌∷◌, ◌++◌, length, get_or, set, replicate, sym, refl, ap, ◌∙◌, subst, inl, inr, ⊎_elim, arith, get_or-set_other, get_or-set_same}
use Rattle.std.proofs.lemmas.List.{length_push, length-take-le, get_or_past}
use Rattle.std.proofs.lemmas.List.Sums.{sum_by-set}
use Rattle.std.proofs.lemmas.Bool.{cases_eq, cases_lt, lt-ltb, both_ways}
use Rattle.shapes.specs.Leaning.{Reaches, there, along}
use Rattle.shapes.specs.Lists.{Member}
use Rattle.shapes.specs.Typing.{Graph}
use Rattle.shapes.proofs.Lists.{member_push, member_last, member_pushed}
use Rattle.stack.specs.Entries.{entries}
use Rattle.upstream.specs.Arcs.{Leads}
use Rattle.upstream.specs.Search.{marked, unmarked, Grown, Searching}

-- a node that was not marked is marked and waits
module _ (ms : List Bool) (es : List ℕ) (i : ℕ) (h : i < length ms) (u : marked ms i ≡ false) where
  marked_same : marked (set ms i true) i ≡ true
  marked_same = get_or-set_same ms i true false h

  one_fewer : unmarked (set ms i true) + 1 ≡ unmarked ms
  one_fewer =
      let e = sum_by-set (λ b. cond (not b) 1 0) ms i true false h in
      let f : ◌≡◌ {A = ℕ} (cond (not (get_or ms i false)) 1 0) 1 = ap (λ b. cond {A = ℕ} (not b) 1 0) u in
      omega (arith, e, f)

  -- so there is a free slot, where each node that waits or is not marked has one
  pub slot_free : (slots : List ℕ) (len : ℕ) → len ≤ length slots → length (entries slots len) + unmarked ms ≤ length slots → ltb len (length slots) ≡ true
  slot_free slots len fits room =
      let e = length-take-le len slots fits in let f = one_fewer in lt-ltb len (length slots) (omega arith)

  pub grown_new : Grown (λ n. n ≡ i) ms es (set ms i true) (es ++ (i ∷ []))
  grown_new =
      record {
        kept = λ n m. ⊎_elim (λ (e : n ≡ i). ap (marked (set ms i true)) e ∙ marked_same) (λ (ne : n ≡ i → ⊥). get_or-set_other ms i n true false ne ∙ m) (cases_eq n i);
        more = λ n m. ⊎_elim
            (λ (e : n ≡ i). inr (e, subst (λ x. Member x (es ++ (i ∷ []))) (sym e) (member_last es i)))
            (λ (ne : n ≡ i → ⊥). inl (sym (get_or-set_other ms i n true false ne) ∙ m)) (cases_eq n i);
        stays = λ n m. member_push es i m;
        only = λ n m. ⊎_elim inl (λ (e : n ≡ i). inr (ap (marked (set ms i true)) e ∙ marked_same)) (member_pushed es i m);
        number = let e = length_push es i in let f = one_fewer in omega arith;
        fewer = let f = one_fewer in omega arith;
      }

pub grown_none : (W : ℕ → Type 0) (ms : List Bool) (es : List ℕ) → Grown W ms es ms es
grown_none W ms es =
    record { kept = λ n m. m; more = λ n m. inl m; stays = λ n m. m; only = λ n m. inl m; number = refl; fewer = omega arith }

pub grown_then : (W : ℕ → Type 0) (a b c : List Bool) (es fs gs : List ℕ) → Grown W a es b fs → Grown W b fs c gs → Grown W a es c gs
grown_then W a b c es fs gs p q =
    record {
      kept = λ n m. q.kept n (p.kept n m);
      more = λ n m. ⊎_elim (λ k. ⊎_elim inl (λ w. inr (w.0, q.stays n w.1)) (p.more n k)) inr (q.more n m);
      stays = λ n m. q.stays n (p.stays n m);
      only = λ n m. ⊎_elim (λ k. ⊎_elim inl (λ w. inr (q.kept n w)) (p.only n k)) inr (q.only n m);
      number = let x = p.number in let y = q.number in omega arith;
      fewer = let x = p.fewer in let y = q.fewer in omega arith;
    }

pub grown_like : (V W : ℕ → Type 0) (a b : List Bool) (es fs : List ℕ) → ((n : ℕ) → V n → W n) → Grown V a es b fs → Grown W a es b fs
grown_like V W a b es fs f p =
    record { kept = p.kept; more = λ n m. ⊎_elim inl (λ w. inr (f n w.0, w.1)) (p.more n m); stays = p.stays; only = p.only; number = p.number; fewer = p.fewer }

pub marked_none : (k n : ℕ) → marked (replicate k false) n ≡ false
marked_none zero n = refl
marked_none (suc k) zero = refl
marked_none (suc k) (suc n) = marked_none k n

pub marked_below : (ms : List Bool) (n : ℕ) → marked ms n ≡ true → n < length ms
marked_below ms n m = ⊎_elim (λ (h : n < length ms). h) (λ (h : length ms ≤ n). absurd (both_ways _ (get_or_past ms n false h) m)) (cases_lt n (length ms))

module _ (G : Graph) (s : ℕ) where
  -- s alone was marked
  pub searching_one : (a b : List Bool) (fs : List ℕ) → ((n : ℕ) → marked a n ≡ false) → Grown (λ n. n ≡ s) a [] b fs → marked b s ≡ true → Searching G s b fs
  searching_one a b fs none g m =
      record {
        subject = m;
        reaches = λ n k. ⊎_elim (λ (x : marked a n ≡ true). absurd (both_ways _ (none n) x)) (λ w. subst (Reaches G s) (sym w.0) there) (g.more n k);
        wait = λ n k. ⊎_elim (λ (x : Member n []). elim x [ ]) (λ x. x) (g.only n k);
        visited = λ n o k l. ⊎_elim (λ (x : marked a o ≡ true). absurd (both_ways _ (none o) x)) (λ w. inl w.1) (g.more o k);
      }

  -- the node o no longer waits, and those that lead to it were marked
  pub searching_more : (a b : List Bool) (es fs : List ℕ) (o : ℕ) → Searching G s a (es ++ (o ∷ []))
      → Grown (λ n. Leads G.arcs n o) a es b fs → ((n : ℕ) → Leads G.arcs n o → marked b n ≡ true) → Searching G s b fs
  searching_more a b es fs o p g all =
      record {
        subject = g.kept s p.subject;
        reaches = λ n m. ⊎_elim (p.reaches n) (λ w. along w.0.1 (p.reaches o (p.wait o (member_last es o)))) (g.more n m);
        wait = λ n m. ⊎_elim (λ k. g.kept n (p.wait n (member_push es o k))) (λ k. k) (g.only n m);
        visited = λ n q m l. ⊎_elim
            (λ k. ⊎_elim (λ w. ⊎_elim (λ x. inl (g.stays q x)) (λ (e : q ≡ o). inr (all n (subst (Leads G.arcs n) e l))) (member_pushed es o w)) (λ w. inr (g.kept n w)) (p.visited n q k l))
            (λ w. inl w.1) (g.more q m);
      }

  -- a node that waits is one of those that have marks
  pub waits_below : (ms : List Bool) (es fs : List ℕ) (o : ℕ) → Searching G s ms es → es ≡ fs ++ (o ∷ []) → o < length ms
  waits_below ms es fs o p e = marked_below ms o (p.wait o (subst (Member o) (sym e) (member_last fs o)))

  -- where nothing waits, everything that reaches s is marked
  pub searched : (marks : List Bool) → Searching G s marks [] → (n : ℕ) → Reaches G s n → marked marks n ≡ true
  searched marks p n there = p.subject
  searched marks p n (along {p = q} {o = o} m r) = pick (p.visited n o (searched marks p o r) (q, m))
    where
      pick : Member o [] ⊎ (marked marks n ≡ true) → marked marks n ≡ true
      pick (inl m) = elim m [ ]
      pick (inr h) = h
