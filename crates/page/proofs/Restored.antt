-- That the page of lawful lists loads back. Assumes nothing.
use Rattle.std.proofs.Common.{◌≡◌, ℕ, zero, suc, ◌+◌, ◌*◌, ◌<◌, ◌≤◌, Bool, true, false, cond, ◌&&◌, ◌||◌, eqb, ltb, leb, ◌⊎◌, List, [], ◌∷◌, ◌++◌, length, take, drop, None, Ok, Err, sum, Result, sym, refl, ap, ◌∙◌, subst, inl, inr, ⊎_elim, arith}
use Rattle.std.proofs.lemmas.List.{append-nil, append_assoc, length-append, length-map, take_at, drop_at, same_from_push}
use Rattle.std.proofs.lemmas.List.Sums.{sum_by_push}
use Rattle.std.proofs.lemmas.Bool.{cases_eq, cases_lt, cases_Bool, and_parts, or_parts, ltb-true, le-ltb, lt-leb, eq-eqb, ne_eqb, not-true}
use Rattle.refusal.specs.Refusals.{Refusal}
use Rattle.triple.specs.Arcs.{Arc, same, has, distinct, inside}
use Rattle.triple.specs.Stores.{Lists, present, total, Lawful, is}
use Rattle.triple.proofs.Totals.{total_same, total_more}
use Rattle.shapes.specs.Lists.{Permuted, none, keep, swap, then}
use Rattle.ledger.specs.Ledger.{Ledger, add_refusal}
use Rattle.ledger.specs.Steps.{AddStep, refused, accepted}
use Rattle.ledger.proofs.Members.{permuted_from_has}
use Rattle.page.specs.Faults.{Told}
use Rattle.page.specs.Format.{Spo, of_node, fans_of, arcs_of, triples_of, properties_of, objects_of, page_of}
use Rattle.page.specs.Loading as loading
use Rattle.page.specs.Loading.{page_refusal, count_of, fan_bytes, wide, Adds, Stops, Loads, Restores}
use Rattle.page.proofs.Adding.{length_triples}
use Rattle.page.proofs.Laid.{length_fans, length_arcs, length_page}

-- equal pages have equal triples
append_split : {A : Type 0} (xs ys us vs : List A) → length xs ≡ length us → xs ++ ys ≡ us ++ vs → (xs ≡ us) × (ys ≡ vs)
append_split xs ys us vs e h = (
  sym (take_at xs ys (length xs) refl) ∙ ap (take (length xs)) h ∙ take_at us vs (length xs) (sym e),
  sym (drop_at xs ys (length xs) refl) ∙ ap (drop (length xs)) h ∙ drop_at us vs (length xs) (sym e),
)

sum_fans : (n : ℕ) (arcs : Lists) → sum (fans_of n arcs) ≡ total n arcs
sum_fans zero arcs = refl
sum_fans (suc n) arcs = sum_by_push (λ x. x) (fans_of n arcs) (length (arcs n)) ∙ ap (λ k. k + length (arcs n)) (sum_fans n arcs)

same_arcs : (xs ys : List Arc) → properties_of xs ≡ properties_of ys → objects_of xs ≡ objects_of ys → xs ≡ ys
same_arcs [] [] p o = refl
same_arcs [] (y ∷ ys) p o = let z : ◌≡◌ {A = ℕ} 0 1 = cc in absurd (omega arith)
same_arcs (x ∷ xs) [] p o = let z : ◌≡◌ {A = ℕ} 0 1 = cc in absurd (omega arith)
same_arcs (x ∷ xs) (y ∷ ys) p o =
    let first : x.0 ≡ y.0 = cc in
    let second : x.1 ≡ y.1 = cc in
    let one : x ≡ y = ap (λ k. (k, x.1)) first ∙ ap (λ k. (y.0, k)) second in
    let rest = same_arcs xs ys (cc) (cc) in
    cc

same_triples : (n : ℕ) (before after : Lists) → fans_of n before ≡ fans_of n after → arcs_of n before ≡ arcs_of n after → triples_of n before ≡ triples_of n after
same_triples zero before after f a = refl
same_triples (suc n) before after f a =
    let fans = same_from_push (fans_of n before) (fans_of n after) (length (before n)) (length (after n)) f in
    let long : length (arcs_of n before) ≡ length (arcs_of n after) = length_arcs n before ∙ sym (sum_fans n before) ∙ ap sum fans.0 ∙ sum_fans n after ∙ sym (length_arcs n after) in
    let parts = append_split (arcs_of n before) (before n) (arcs_of n after) (after n) long a in
    let below = same_triples n before after fans.0 parts.0 in
    ap (λ z. z ++ of_node n (before n)) below ∙ ap (λ z. triples_of n after ++ of_node n z) parts.1

same_page : (n : ℕ) (before after : Lists) → page_of n before ≡ page_of n after → (total n before ≡ total n after) × (triples_of n before ≡ triples_of n after)
same_page n before after h =
    let body : fans_of n before ++ (properties_of (arcs_of n before) ++ objects_of (arcs_of n before)) ≡ fans_of n after ++ (properties_of (arcs_of n after) ++ objects_of (arcs_of n after)) = ap (drop 2) h in
    let fans = append_split (fans_of n before) _ (fans_of n after) _ (length_fans n before ∙ sym (length_fans n after)) body in
    let sums : total n before ≡ total n after = sym (sum_fans n before) ∙ ap sum fans.0 ∙ sum_fans n after in
    let long : length (properties_of (arcs_of n before)) ≡ length (properties_of (arcs_of n after)) = simp (length-map, length_arcs) sums in
    let parts = append_split (properties_of (arcs_of n before)) _ (properties_of (arcs_of n after)) _ long fans.1 in
    (sums, same_triples n before after fans.0 (same_arcs _ _ parts.0 parts.1))

-- the page of lawful lists passes every check
wide_push : (xs : List ℕ) (f : ℕ) → wide xs ≡ length xs → f ≤ 12 → wide (xs ++ f ∷ []) ≡ suc (length xs)
wide_push [] f e h = rw (le-ltb 12 f h) refl
wide_push (x ∷ xs) f e h = ⊎_elim
    (λ (t : ltb 12 x ≡ true). let z : 0 ≡ suc (length xs) = sym (rw t refl) ∙ e in absurd (omega arith))
    (λ (t : ltb 12 x ≡ false). let step : suc (wide xs) ≡ suc (length xs) = sym (rw t refl) ∙ e in rw t (ap suc (wide_push xs f (omega arith) h)))
    (cases_Bool (ltb 12 x))

wide_fans : (n : ℕ) (arcs : Lists) → ((m : ℕ) → length (arcs m) ≤ 12) → wide (fans_of n arcs) ≡ n
wide_fans zero arcs few = refl
wide_fans (suc n) arcs few = wide_push (fans_of n arcs) (length (arcs n)) (wide_fans n arcs few ∙ sym (length_fans n arcs)) (few n) ∙ ap suc (length_fans n arcs)

page_passes : (n : ℕ) (arcs : Lists) → ((m : ℕ) → length (arcs m) ≤ 12) → page_refusal n (page_of n arcs) ≡ None
page_passes n arcs few =
    let bytes = page_of n arcs in
    let fans : fan_bytes n bytes ≡ fans_of n arcs = take_at (fans_of n arcs) _ n (length_fans n arcs) in
    let long : ltb (length bytes) (2 + n) ≡ false = le-ltb _ _ (omega (arith, length_page n arcs)) in
    let count : eqb (count_of bytes) n ≡ true = eq-eqb _ _ (omega arith) in
    let low : ltb (wide (fan_bytes n bytes)) n ≡ false = le-ltb _ _ (omega (arith, ap wide fans ∙ wide_fans n arcs few)) in
    let size : eqb (length bytes) (2 + n + 2 * sum (fan_bytes n bytes)) ≡ true = eq-eqb _ _ (omega (arith, length_page n arcs, ap sum fans ∙ sum_fans n arcs)) in
    simp (long, count, low, size) refl

-- the arcs that triples give a node
abbrev arcs_at : ℕ → List Spo → List Arc
arcs_at s [] = []
arcs_at s (t ∷ ts) = cond (eqb t.0 s) ((t.1, t.2) ∷ arcs_at s ts) (arcs_at s ts)

at_append : (s : ℕ) (xs ys : List Spo) → arcs_at s (xs ++ ys) ≡ arcs_at s xs ++ arcs_at s ys
at_append s [] ys = refl
at_append s (x ∷ xs) ys = ⊎_elim
    (λ (t : eqb x.0 s ≡ true). rw t (ap (λ z. (x.1, x.2) ∷ z) (at_append s xs ys)))
    (λ (t : eqb x.0 s ≡ false). rw t (at_append s xs ys))
    (cases_Bool (eqb x.0 s))

at_node : (s : ℕ) (arcs : List Arc) → arcs_at s (of_node s arcs) ≡ arcs
at_node s [] = refl
at_node s (a ∷ arcs) = rw (eq-eqb s s refl) (ap (λ z. a ∷ z) (at_node s arcs))

at_other : (s m : ℕ) (arcs : List Arc) → (m ≡ s → ⊥) → arcs_at s (of_node m arcs) ≡ []
at_other s m [] d = refl
at_other s m (a ∷ arcs) d = rw (ne_eqb m s d) (at_other s m arcs d)

at_past : (s n : ℕ) (arcs : Lists) → n ≤ s → arcs_at s (triples_of n arcs) ≡ []
at_past s zero arcs h = refl
at_past s (suc n) arcs h = at_append s (triples_of n arcs) (of_node n (arcs n)) ∙ rw (at_past s n arcs (omega arith)) (at_other s n (arcs n) (λ e. omega arith))

at_triples : (s n : ℕ) (arcs : Lists) → s < n → arcs_at s (triples_of n arcs) ≡ arcs s
at_triples s zero arcs h = let z : ⊥ = omega arith in elim z [ ]
at_triples s (suc n) arcs h = at_append s (triples_of n arcs) (of_node n (arcs n)) ∙ ⊎_elim
    (λ (e : n ≡ s). ap (λ z. z ++ arcs_at s (of_node n (arcs n))) (at_past s n arcs (omega arith)) ∙ subst (λ m. arcs_at s (of_node m (arcs m)) ≡ arcs s) (sym e) (at_node s (arcs s)))
    (λ (d : n ≡ s → ⊥). ap (λ z. z ++ arcs_at s (of_node n (arcs n))) (at_triples s n arcs (omega arith)) ∙ ap (λ z. arcs s ++ z) (at_other s n (arcs n) d) ∙ append-nil (arcs s))
    (cases_eq n s)

-- lengths and totals
permuted_length : {A : Type 0} {xs ys : List A} → Permuted xs ys → length xs ≡ length ys
permuted_length none = refl
permuted_length (keep p) = ap suc (permuted_length p)
permuted_length swap = refl
permuted_length (then p q) = permuted_length p ∙ permuted_length q

total_lengths : (before after : Lists) (n : ℕ) → ((m : ℕ) → length (after m) ≡ length (before m)) → total n after ≡ total n before
total_lengths before after zero h = refl
total_lengths before after (suc n) h = omega (arith, total_lengths before after n h, h n)

total_at : (n : ℕ) (ts : List Spo) → total n (λ m. arcs_at m ts) ≤ length ts
total_at n [] = omega (arith, total_lengths (λ m. []) (λ m. []) n (λ m. refl), total_none n)
  where
    total_none : (n : ℕ) → total n (λ m. []) ≡ 0
    total_none zero = refl
    total_none (suc n) = omega (arith, total_none n)
total_at n (t ∷ ts) = ⊎_elim
    (λ (h : t.0 < n). omega (arith, total_more (λ m. arcs_at m ts) (λ m. arcs_at m (t ∷ ts)) t.0 n h (rw (eq-eqb t.0 t.0 refl) refl) (λ m d. rw (ne_eqb t.0 m (λ e. d (sym e))) refl), total_at n ts))
    (λ (h : n ≤ t.0). omega (arith, total_same (λ m. arcs_at m ts) (λ m. arcs_at m (t ∷ ts)) n (λ m l. rw (ne_eqb t.0 m (λ e. omega arith)) refl), total_at n ts))
    (cases_lt t.0 n)

has_append : (p o : ℕ) (xs ys : List Arc) → has p o (xs ++ ys) ≡ (has p o xs || has p o ys)
has_append p o [] ys = refl
has_append p o (x ∷ xs) ys = ap (λ z. same x p o || z) (has_append p o xs ys) ∙ or_assoc (same x p o) (has p o xs) (has p o ys)
  where
    or_assoc : (a b c : Bool) → (a || (b || c)) ≡ ((a || b) || c)
    or_assoc true b c = refl
    or_assoc false b c = refl

-- of arcs without repeats, the front has none of what comes after
eqb_sym : (m n : ℕ) → eqb m n ≡ eqb n m
eqb_sym m n = ⊎_elim (λ (e : m ≡ n). eq-eqb m n e ∙ sym (eq-eqb n m (sym e))) (λ (d : m ≡ n → ⊥). ne_eqb m n d ∙ sym (ne_eqb n m (λ e. d (sym e)))) (cases_eq m n)

distinct_prefix : (xs ys : List Arc) → distinct (xs ++ ys) ≡ true → distinct xs ≡ true
distinct_prefix [] ys h = refl
distinct_prefix (x ∷ xs) ys h =
    let parts = and_parts _ _ h in
    let gone = or_parts _ _ (sym (has_append x.0 x.1 xs ys) ∙ not-true _ parts.0) in
    let absent : has x.0 x.1 xs ≡ false = gone.0 in
    rw (absent, distinct_prefix xs ys parts.1) refl

distinct_front : (xs ys : List Arc) (a : Arc) → distinct (xs ++ a ∷ ys) ≡ true → has a.0 a.1 xs ≡ false
distinct_front [] ys a h = refl
distinct_front (x ∷ xs) ys a h =
    let parts = and_parts _ _ h in
    let gone = or_parts _ _ (sym (has_append x.0 x.1 xs (a ∷ ys)) ∙ not-true _ parts.0) in
    let other : same a x.0 x.1 ≡ false = (or_parts _ _ gone.1).0 in
    let here : same x a.0 a.1 ≡ false = ap (λ z. z && eqb x.1 a.1) (eqb_sym x.0 a.0) ∙ ap (λ z. eqb a.0 x.0 && z) (eqb_sym x.1 a.1) ∙ other in
    rw (here, distinct_front xs ys a parts.1) refl

-- one more triple
or_swap : (x y : Bool) → (x || (y || false)) ≡ (y || x)
or_swap true true = refl
or_swap true false = refl
or_swap false true = refl
or_swap false false = refl

one_more : (s p o n a c : ℕ) (done : List Spo) → has a c (arcs_at n (done ++ (s, p, o) ∷ [])) ≡ (is n a c s p o || has a c (arcs_at n done))
one_more s p o n a c done =
    ap (has a c) (at_append n done ((s, p, o) ∷ []))
    ∙ ⊎_elim
    (λ (e : n ≡ s). rw (eq-eqb s n (sym e), eq-eqb n s e) (has_append a c (arcs_at n done) ((p, o) ∷ []) ∙ or_swap (has a c (arcs_at n done)) (same (p, o) a c)))
    (λ (d : n ≡ s → ⊥). rw (ne_eqb s n (λ e. d (sym e)), ne_eqb n s d) (ap (has a c) (append-nil (arcs_at n done))))
    (cases_eq n s)

-- the ledger b has come from b₀ by the triples so far
record Good (b₀ b : Ledger) (done : List Spo) : Type 0 where
  nodes : b.nodes ≡ b₀.nodes
  capacity : b.capacity ≡ b₀.capacity
  literals : b.literals ≡ b₀.literals
  apart : (m : ℕ) → distinct (b.arcs m) ≡ true
  holds : (s p o : ℕ) → present b.arcs s p o ≡ has p o (arcs_at s done)

-- triples that fit together into b₀
record Fine (b₀ : Ledger) (ts : List Spo) : Type 0 where
  apart : (s : ℕ) → distinct (arcs_at s ts) ≡ true
  few : (s : ℕ) → length (arcs_at s ts) ≤ 12
  room : length ts ≤ b₀.capacity

-- each of which may be there
abbrev Each : Ledger → List Spo → Type 0
Each b₀ [] = Unit {0}
Each b₀ (t ∷ ts) = (t.0 < b₀.nodes) × (t.2 < b₀.nodes) × (b₀.literals t.0 ≡ false) × Each b₀ ts

accepts : (b₀ b : Ledger) (done rest : List Spo) (s p o : ℕ) → Good b₀ b done → Fine b₀ (done ++ (s, p, o) ∷ rest) → s < b₀.nodes → o < b₀.nodes → b₀.literals s ≡ false
    → add_refusal b s p o ≡ None
accepts b₀ b done rest s p o good fine hs ho plain =
    let here : arcs_at s (done ++ (s, p, o) ∷ rest) ≡ arcs_at s done ++ (p, o) ∷ arcs_at s rest = at_append s done ((s, p, o) ∷ rest) ∙ ap (λ z. arcs_at s done ++ z) (rw (eq-eqb s s refl) refl) in
    let front = distinct_front (arcs_at s done) (arcs_at s rest) (p, o) (subst (λ z. distinct z ≡ true) here (fine.apart s)) in
    let level : (m : ℕ) → length (b.arcs m) ≡ length (arcs_at m done) = λ m. permuted_length (permuted_from_has (b.arcs m) (arcs_at m done) (good.apart m)
    (distinct_prefix (arcs_at m done) (arcs_at m ((s, p, o) ∷ rest)) (subst (λ z. distinct z ≡ true) (at_append m done ((s, p, o) ∷ rest)) (fine.apart m))) (λ a c. sym (good.holds m a c))) in
    let long : length (arcs_at s (done ++ (s, p, o) ∷ rest)) ≡ length (arcs_at s done) + suc (length (arcs_at s rest)) = ap length here ∙ length-append (arcs_at s done) ((p, o) ∷ arcs_at s rest) in
    let all : length (done ++ (s, p, o) ∷ rest) ≡ length done + suc (length rest) = length-append done ((s, p, o) ∷ rest) in
    let literal : b.literals s ≡ false = ap (λ f. f s) good.literals ∙ plain in
    let absent : has p o (b.arcs s) ≡ false = good.holds s p o ∙ front in
    let room : eqb (length (b.arcs s)) 12 ≡ false = ne_eqb _ _ (λ e. omega (arith, e, level s, long, fine.few s)) in
    let vacant : eqb (total b.nodes b.arcs) b.capacity ≡ false =
    ne_eqb _ _ (λ e. omega (arith, e, total_lengths (λ m. arcs_at m done) b.arcs b.nodes level, total_at b.nodes done, all, fine.room, good.capacity)) in
    let subject : leb b.nodes s ≡ false = lt-leb _ _ (omega (arith, good.nodes)) in
    let object : leb b.nodes o ≡ false = lt-leb _ _ (omega (arith, good.nodes)) in
    simp (subject, object, literal, absent, room, vacant) refl

next : {b₀ b b' : Ledger} {done : List Spo} {s p o : ℕ} → Good b₀ b done → AddStep b s p o (Ok tt) b' → Good b₀ b' (done ++ (s, p, o) ∷ [])
next {done = done} {s = s} {p = p} {o = o} good (accepted e added edited) = record {
  nodes = edited.fixed.nodes ∙ good.nodes;
  capacity = edited.fixed.capacity ∙ good.capacity;
  literals = edited.fixed.literals ∙ good.literals;
  apart = edited.apart;
  holds = λ n a c. added n a c ∙ ap (λ z. is n a c s p o || z) (good.holds n a c) ∙ sym (one_more s p o n a c done);
}

not_refused : {b b' : Ledger} {s p o : ℕ} {e : Refusal} → add_refusal b s p o ≡ None → AddStep b s p o (Err e) b' → ⊥
not_refused passed (refused some) = let z : ◌≡◌ {A = ℕ} 0 1 = cc (passed, some) in omega arith

run : {b₀ b b' : Ledger} {rest : List Spo} (done : List Spo) → Good b₀ b done → Adds b rest b' → Good b₀ b' (done ++ rest)
run {b₀ = b₀} {b = b} done good loading.none = subst (Good b₀ b) (sym (append-nil done)) good
run {b₀ = b₀} {b' = b'} done good (loading.more {s = s} {p = p} {o = o} {ts = ts} step adds) =
    subst (Good b₀ b') (append_assoc done ((s, p, o) ∷ []) ts) (run (done ++ (s, p, o) ∷ []) (next good step) adds)

never : {b₀ b b' : Ledger} {rest : List Spo} {k : ℕ} {e : Refusal} (done : List Spo) → Good b₀ b done → Fine b₀ (done ++ rest) → Each b₀ rest → Stops b rest k e b' → ⊥
never {b₀ = b₀} {b = b} done good fine each (loading.here {s = s} {p = p} {o = o} {ts = ts} step) =
    not_refused (accepts b₀ b done ts s p o good fine each.0 each.1 each.2) step
never {b₀ = b₀} done good fine each (loading.later {s = s} {p = p} {o = o} {ts = ts} step stops) =
    never (done ++ (s, p, o) ∷ []) (next good step) (subst (Fine b₀) (sym (append_assoc done ((s, p, o) ∷ []) ts)) fine) each.3 stops

-- the triples of lawful lists
each_append : (b₀ : Ledger) (xs ys : List Spo) → Each b₀ xs → Each b₀ ys → Each b₀ (xs ++ ys)
each_append b₀ [] ys ex ey = ey
each_append b₀ (x ∷ xs) ys ex ey = (ex.0, ex.1, ex.2, each_append b₀ xs ys ex.3 ey)

each_node : (b₀ : Ledger) (m : ℕ) (arcs : List Arc) → m < b₀.nodes → inside b₀.nodes arcs ≡ true → (arcs ≡ []) ⊎ (b₀.literals m ≡ false) → Each b₀ (of_node m arcs)
each_node b₀ m [] h within plain = tt
each_node b₀ m (a ∷ arcs) h within plain =
    let parts = and_parts _ _ within in
    let no : b₀.literals m ≡ false = ⊎_elim (λ (e : a ∷ arcs ≡ []). let z : ◌≡◌ {A = ℕ} 0 1 = cc in absurd (omega arith)) (λ (e : b₀.literals m ≡ false). e) plain in
    (h, ltb-true _ _ (and_parts _ _ parts.0).1, no, each_node b₀ m arcs h parts.1 (inr no))

-- b₀ has no triples, and the lists are lawful for it
module _ (b₀ : Ledger) (arcs : Lists) (lawful : Lawful b₀.nodes b₀.capacity arcs) (empty : (n : ℕ) → b₀.arcs n ≡ []) (plain : (n : ℕ) → b₀.literals n ≡ true → arcs n ≡ []) where
  each_triples : (n : ℕ) → n ≤ b₀.nodes → Each b₀ (triples_of n arcs)
  each_triples zero h = tt
  each_triples (suc n) h =
      let free : (arcs n ≡ []) ⊎ (b₀.literals n ≡ false) = ⊎_elim (λ (t : b₀.literals n ≡ true). inl (plain n t)) (λ (t : b₀.literals n ≡ false). inr t) (cases_Bool (b₀.literals n)) in
      each_append b₀ (triples_of n arcs) (of_node n (arcs n)) (each_triples n (omega arith)) (each_node b₀ n (arcs n) (omega arith) (lawful.within n) free)

  at_all : (s : ℕ) → arcs_at s (triples_of b₀.nodes arcs) ≡ arcs s
  at_all s = ⊎_elim (λ (h : s < b₀.nodes). at_triples s b₀.nodes arcs h) (λ (h : b₀.nodes ≤ s). at_past s b₀.nodes arcs h ∙ sym (lawful.past s h)) (cases_lt s b₀.nodes)

  fine_triples : Fine b₀ (triples_of b₀.nodes arcs)
  fine_triples = record {
    apart = λ s. ap distinct (at_all s) ∙ lawful.apart s;
    few = λ s. omega (arith, ap length (at_all s), lawful.few s);
    room = omega (arith, length_triples b₀.nodes arcs, lawful.room);
  }

  good_start : Good b₀ b₀ []
  good_start = record { nodes = refl; capacity = refl; literals = refl; apart = λ m. ap distinct (empty m); holds = λ s p o. ap (has p o) (empty s) }

  pub never_stops : {b' : Ledger} {k : ℕ} {e : Refusal} → Stops b₀ (triples_of b₀.nodes arcs) k e b' → ⊥
  never_stops stops = never [] good_start fine_triples (each_triples b₀.nodes (omega arith)) stops

  pub same_after : {b' : Ledger} → Adds b₀ (triples_of b₀.nodes arcs) b' → (s p o : ℕ) → present b'.arcs s p o ≡ present arcs s p o
  same_after adds s p o = (run [] good_start adds).holds s p o ∙ ap (has p o) (at_all s)

pub restored : (b : Ledger) (bytes : List ℕ) (r : Result ℕ Told) (b' : Ledger) → Loads b bytes r b' → Restores b bytes r b'
restored b bytes r b' (loading.refused some) = λ arcs page lawful empty plain.
    let passed : page_refusal b.nodes bytes ≡ None = subst (λ z. page_refusal b.nodes z ≡ None) (sym page) (page_passes b.nodes arcs lawful.few) in
    let z : ◌≡◌ {A = ℕ} 0 1 = cc (passed, some) in absurd (omega arith)
restored b bytes r b' (loading.stopped {k = k} {e = e} other passed read stops) = λ arcs page lawful empty plain.
    absurd (never_stops b arcs lawful empty plain (subst (λ (ts : List Spo). Stops b ts k e b') (same_page b.nodes other arcs (sym read ∙ page)).1 stops))
restored b bytes r b' (loading.loaded other passed read adds) = λ arcs page lawful empty plain.
    let both = same_page b.nodes other arcs (sym read ∙ page) in
    (ap Ok both.0, same_after b arcs lawful empty plain (subst (λ (ts : List Spo). Adds b ts b') both.1 adds))
