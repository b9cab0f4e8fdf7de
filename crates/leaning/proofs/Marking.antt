-- Marking pairs, one after another, until none waits. Assumes nothing.
use Rattle.std.proofs.Common.{◌≡◌, ℕ, zero, suc, ◌+◌, ◌<◌, ◌≤◌, Bool, ◌⊎◌, List, [], ◌∷◌, ◌++◌, length, get_or, take, drop, set, None, Some, Option, sym, refl, ap, ap₂, ◌∙◌, subst, inl, inr, ⊎_elim, arith, get_or-set_other, get_or-set_same}
use Rattle.std.proofs.lemmas.Nat.{mul-add-lt}
use Rattle.std.proofs.lemmas.List.{length_push, length-take-le, drop-set-lt}
use Rattle.std.proofs.lemmas.Bool.{cases_eq, lt-ltb}
use Rattle.shapes.specs.Expr.{Schema}
use Rattle.shapes.specs.Leaning.{Leans, Closed, Reached, asked, next}
use Rattle.shapes.specs.Lists.{Member, first, later}
use Rattle.shapes.specs.Typing.{Graph}
use Rattle.shapes.proofs.Lists.{member_last, member_pushed}
use Rattle.shapes.proofs.Leaning.{reached_inside}
use Rattle.stack.specs.Entries.{has_room, pushed}
use Rattle.stack.specs.declared.Goal.{Goal}
use Rattle.shapes.specs.Bytes.{place, byte_typing}
use Rattle.leaning.specs.Pairs.{Clean}
use Rattle.leaning.specs.Search.{count, unmarked, Shown, Looked}
use Rattle.leaning.specs.Marking.{waiting, Found, Held, Covered, work, Frame, Begun, Grown, Popped, Searching}
use Rattle.leaning.proofs.Showing.{shown, shown_same, shown_kept, shown_more, one_fewer}
use Rattle.leaning.specs.declared.pairs.Pairs.{Pairs}
use Rattle.leaning.specs.declared.search.Search.{Search}

-- a pair that was neither held nor marked is marked and waits
module _ (s : Search) (pair : Goal) (i : ℕ) (at : i ≡ place s.pairs.labels pair.node pair.label) (within : (pair.node < s.pairs.nodes) × (pair.label < s.pairs.labels)) where
  below : i < count s.pairs
  below = omega (arith, mul-add-lt pair.node s.pairs.labels pair.label s.pairs.nodes within.0 within.1)

  long : i < length s.marks.now
  long = let h = below in let m = s.marks_long in omega arith

  abbrev marks' : List ℕ
  marks' = set s.marks.now i 1

  abbrev Found' : Goal → Type 0
  Found' g = Shown s.pairs marks' g

  pub made : Found' pair
  made = shown_same s.pairs.nodes s.pairs.labels s.marks.now pair i at within long

  pub kept : (g : Goal) → Found s g → Found' g
  kept = shown_kept s.pairs.nodes s.pairs.labels s.marks.now pair i at within long

  pub more : (g : Goal) → Found' g → Found s g ⊎ (g ≡ pair)
  more = shown_more s.pairs.nodes s.pairs.labels s.marks.now pair i at within long

  pub rest : drop (count s.pairs) marks' ≡ drop (count s.pairs) s.marks.now
  rest = drop-set-lt (count s.pairs) s.marks.now i 1 below

  pub clean : Clean (count s.pairs) marks'
  clean k h = ⊎_elim
      (λ (e : k ≡ i). let x = ap (λ j. get_or marks' j 0) e ∙ get_or-set_same s.marks.now i 1 0 long in omega arith)
      (λ (ne : k ≡ i → ⊥). let x = get_or-set_other s.marks.now i k 1 0 ne in let y = s.clean k h in omega arith) (cases_eq k i)

  pub apart : (get_or s.held.now i 0 ≡ 1 → ⊥) → (g : Goal) → Found' g → ¬ Held s g
  apart free g m h = ⊎_elim (λ k. s.apart g k h)
      (λ (e : g ≡ pair). free (ap (λ j. get_or s.held.now j 0) at ∙ ((shown s.pairs.nodes s.pairs.labels s.held.now pair).0 (subst (Held s) e h)).1)) (more g m)

  module _ (new : get_or s.marks.now i 0 ≡ 1 → ⊥) (ok : Bool) (after : List Goal) (answer : ok ≡ has_room s.waiting.now.slots.now s.waiting.now.len) (push : after ≡ pushed ok (waiting s) pair) where
    pub fewer : unmarked (count s.pairs) marks' + 1 ≡ unmarked (count s.pairs) s.marks.now
    fewer = one_fewer (count s.pairs) s.marks.now i below s.marks_long new

    -- there is a free slot, since each pair that waits or is not marked has one
    pub last : after ≡ waiting s ++ (pair ∷ [])
    last =
        let size = length-take-le s.waiting.now.len s.waiting.now.slots.now s.waiting.now.fits in
        let less = fewer in
        let room = s.room in
        push ∙ ap (λ b. pushed b (waiting s) pair) (answer ∙ lt-ltb s.waiting.now.len (length s.waiting.now.slots.now) (omega arith))

    pub longer : length after ≡ length (waiting s) + 1
    longer = ap length last ∙ length_push (waiting s) pair

    pub waits : (g : Goal) → Member g after → Found' g
    waits g m = ⊎_elim (λ w. kept g (s.waits g w)) (λ (e : g ≡ pair). subst Found' (sym e) made) (member_pushed (waiting s) pair (subst (Member g) last m))

    pub room : length after + unmarked (count s.pairs) marks' ≤ length s.waiting.now.slots.now
    room = let l = longer in let f = fewer in let r = s.room in omega arith

pub member_take : (m n : ℕ) (xs : List Goal) (a : Goal) → m ≤ n → Member a (take m xs) → Member a (take n xs)
member_take zero n xs a h k = elim k [ ]
member_take (suc m) zero xs a h k = absurd (omega arith)
member_take (suc m) (suc n) [] a h k = k
member_take (suc m) (suc n) (x ∷ xs) a h first = first
member_take (suc m) (suc n) (x ∷ xs) a h (later k) = later (member_take m n xs a (omega arith) k)

pub frame_none : (a : Search) → Frame a a
frame_none a = record { pairs = refl; held = refl; lent = refl; rest = refl; kept = λ g m. m }

pub frame_then : (a b c : Search) → Frame a b → Frame b c → Frame a c
frame_then a b c p q =
    record {
      pairs = q.pairs ∙ p.pairs;
      held = q.held ∙ p.held;
      lent = q.lent ∙ p.lent;
      rest = subst (λ x. drop (count x) c.marks.now ≡ drop (count x) b.marks.now) p.pairs q.rest ∙ p.rest;
      kept = λ g m. q.kept g (p.kept g m);
    }

-- what was held or marked still is
pub held_kept : (a b : Search) → Frame a b → (g : Goal) → Held a g → Held b g
held_kept a b f g h = subst (λ x. Shown x b.held.now g) (sym f.pairs) (subst (λ xs. Shown a.pairs xs g) (sym f.held) h)

pub covered_kept : (a b : Search) → Frame a b → (g : Goal) → Covered a g → Covered b g
covered_kept a b f g c = ⊎_elim (λ h. inl (held_kept a b f g h)) (λ m. inr (f.kept g m)) c

pub grown_none : (W : Goal → Type 0) (a : Search) → Grown W a a
grown_none W a = record { frame = frame_none a; more = λ g m. inl m; stays = λ g m. m; less = omega arith }

pub grown_then : (W : Goal → Type 0) (a b c : Search) → Grown W a b → Grown W b c → Grown W a c
grown_then W a b c p q =
    record {
      frame = frame_then a b c p.frame q.frame;
      more = λ g m. ⊎_elim (λ k. ⊎_elim inl (λ w. inr (w.0, q.stays g w.1)) (p.more g k)) inr (q.more g m);
      stays = λ g m. q.stays g (p.stays g m);
      less = let x = p.less in let y = q.less in omega arith;
    }

pub grown_like : (V W : Goal → Type 0) (a b : Search) → ((g : Goal) → V g → W g) → Grown V a b → Grown W a b
grown_like V W a b f p = record { frame = p.frame; more = λ g m. ⊎_elim inl (λ w. inr (f g w.0, w.1)) (p.more g m); stays = p.stays; less = p.less }

-- what a pop leaves
pub popped_same : (r : Option Goal) (a p : Search) → Popped r a p → (g : Goal) → Found p g → Found a g
popped_same r a p pop g m = subst (λ x. Shown x a.marks.now g) pop.frame.pairs (subst (λ xs. Shown p.pairs xs g) pop.marks m)

pub popped_found : (a p : Search) (o : Goal) → Popped (Some o) a p → Found a o
popped_found a p o pop = a.waits o (subst (Member o) (sym pop.waiting) (member_last (waiting p) o))

pub popped_less : (a p : Search) (o : Goal) → Popped (Some o) a p → work p + 1 ≡ work a
popped_less a p o pop =
    let e = ap₂ (λ x xs. unmarked (count x) xs) pop.frame.pairs pop.marks in
    let f = ap length pop.waiting in
    let g = length_push (waiting p) o in
    omega arith

-- what holds of a search that went on from its beginning, said of the pairs, bytes and marks that it was given
module _ (all : Pairs) (held before : List ℕ) (a s : Search) (begun : Begun all held before a) (frame : Frame a s) where
  pub said : (nodes labels : ℕ) (marks : List ℕ) → all.nodes ≡ nodes → all.labels ≡ labels → marks ≡ s.marks.now
      → (Q : ℕ → ℕ → List ℕ → List ℕ → Type 0) → Q s.pairs.nodes s.pairs.labels s.held.now s.marks.now → Q nodes labels held marks
  said nodes labels marks x y z Q q =
      subst (λ xs. Q nodes labels held xs) (sym z) (subst (λ hs. Q nodes labels hs s.marks.now) (frame.held ∙ begun.held)
      (subst (λ l. Q nodes l s.held.now s.marks.now) (ap (λ p. p.labels) (frame.pairs ∙ begun.pairs) ∙ y)
      (subst (λ n. Q n s.pairs.labels s.held.now s.marks.now) (ap (λ p. p.nodes) (frame.pairs ∙ begun.pairs) ∙ x) q)))

  pub still : drop (count s.pairs) s.marks.now ≡ drop (count s.pairs) before
  still = subst (λ p. drop (count p) s.marks.now ≡ drop (count p) before) (sym frame.pairs) (frame.rest ∙ begun.rest)

module _ (S : Schema) (G : Graph) (n l : ℕ) where
  -- the asked pair alone was marked, unless it is held
  pub searching_one : (a b : Search) → ((g : Goal) → ¬ Found a g) → Grown (λ g. g ≡ record { node = n; label = l }) a b → Covered b (record { node = n; label = l }) → Searching S G n l b
  searching_one a b none g made =
      record {
        asked = made;
        reached = λ x m. ⊎_elim (λ (y : Found a x). absurd (none x y)) (λ w. subst (λ z. Reached S G n l z.node z.label) (sym w.0) asked) (g.more x m);
        visited = λ x y m h. ⊎_elim (λ (z : Found a x). absurd (none x z)) (λ w. inl w.1) (g.more x m);
      }

  -- the pair o no longer waits, and what it leans on is covered
  pub searching_more : (a p b : Search) (o : Goal) → Searching S G n l a → Popped (Some o) a p
      → Grown (λ g. Leans S G o.node o.label g.node g.label) p b → ((g : Goal) → Leans S G o.node o.label g.node g.label → Covered b g) → Searching S G n l b
  searching_more a p b o s pop g all =
      let still = λ (x : Goal). covered_kept a b (frame_then a p b pop.frame g.frame) x in
      record {
        asked = still _ s.asked;
        reached = λ x m. ⊎_elim (λ k. s.reached x (popped_same (Some o) a p pop x k)) (λ w. next (s.reached o (popped_found a p o pop)) w.0) (g.more x m);
        visited = λ x y m h. ⊎_elim
            (λ k. ⊎_elim
            (λ w. ⊎_elim (λ z. inl (g.stays x z)) (λ (e : x ≡ o). inr (all y (subst (λ z. Leans S G z.node z.label y.node y.label) e h))) (member_pushed (waiting p) o (subst (Member x) pop.waiting w)))
            (λ w. inr (still y w)) (s.visited x y (popped_same (Some o) a p pop x k) h))
            (λ w. inl w.1) (g.more x m);
      }

  -- where none waits, everything that is reached is covered
  pub looked : (a s : Search) → Searching S G n l a → Popped None a s
      → Looked S G (byte_typing s.pairs.nodes s.pairs.labels s.held.now) n l (byte_typing s.pairs.nodes s.pairs.labels s.marks.now)
  looked a s p pop =
      record {
        reached = λ o k m. let g : Goal = record { node = o; label = k } in (p.reached g (popped_same None a s pop g m), s.apart g m);
        all = λ closed o k r. ⊎_elim inr inl (reached_inside S G (λ x y. Covered s (record { node = x; label = y })) (step closed) (covered_kept a s pop.frame _ p.asked) r);
      }
    where
      step : Closed S G (λ o k. Held s (record { node = o; label = k })) → Closed S G (λ x y. Covered s (record { node = x; label = y }))
      step closed x y q j (inl m) h = inl (closed x y q j m h)
      step closed x y q j (inr m) h =
          let g : Goal = record { node = x; label = y } in
          ⊎_elim (λ (w : Member g (waiting a)). elim (subst (Member g) pop.waiting w) [ ]) (covered_kept a s pop.frame _)
          (p.visited g (record { node = q; label = j }) (popped_same None a s pop g m) h)
