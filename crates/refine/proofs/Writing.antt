-- A value written where a test holds: one more place, and what follows where the test is a function.
use Rattle.std.proofs.Common.{◌≡◌, ℕ, ◌+◌, ◌-◌, ◌<◌, ◌≤◌, ◌&&◌, Bool, true, false, cond, ltb, ◌⊎◌, List, ◌++◌, length, get_or, set, take, drop, Decides, ⊎_elim, inl, inr, ap, ◌∙◌, sym, refl, subst, arith, below_more, get_or-set_same, get_or-set_other}
use borrow.Rule.Slice.PartMut.{put_mid, post_of}
use Rattle.std.proofs.lemmas.Bool.{cases_lt, true≢false, lt-ltb, le-ltb}
use Rattle.std.proofs.lemmas.List.{get_or-take, get_or-drop, get_or_default, get_or-append_right, length-take-le}
use Rattle.std.proofs.Math.ListN.{get_or-append}
use Rattle.refine.specs.Narrowing.{Marked}
use Rattle.refine.specs.Writing.{WrittenUpTo, WrittenWhere}

module _ {T : Type 0} (test : ℕ → T → Bool → Type 0) (value : T) (x : List T) where
  pub written_set : (n : ℕ) (any : Bool) (y : List T) → WrittenUpTo test value x n any y → n < length y → test n (get_or x n value) true
      → WrittenUpTo test value x (n + 1) true (set y n value)
  written_set n any y w long t =
      record {
        before = below_more _ n (λ k h. let m = w.before k h in (m.0, m.1, get_or-set_other y n k value value (λ e. omega arith) ∙ m.2)) (true, t, get_or-set_same y n value value long);
        past = λ k h. get_or-set_other y n k value value (λ e. omega arith) ∙ w.past k (omega arith);
        same = λ e. absurd (true≢false e);
        some = λ e. (n, omega arith, t);
      }

  pub written_kept : (n : ℕ) (any : Bool) (y : List T) → WrittenUpTo test value x n any y → test n (get_or x n value) false → WrittenUpTo test value x (n + 1) any y
  written_kept n any y w t =
      record {
        before = below_more _ n w.before (false, t, w.past n (omega arith));
        past = λ k h. w.past k (omega arith);
        same = w.same;
        some = λ e. let m = w.some e in (m.0, omega (arith, m.1), m.2);
      }

  -- where the test is a function of the place
  module _ (is : ℕ → Bool) (any : Bool) (y : List T) (w : WrittenWhere test value x any y) (f : (k : ℕ) (b : Bool) → k < length x → test k (get_or x k value) b → b ≡ is k) where
    pub written_at : (k : ℕ) → k < length x → get_or y k value ≡ cond (is k) value (get_or x k value)
    written_at k h = let m = w.before k h in m.2 ∙ ap (λ b. cond b value (get_or x k value)) (f k m.0 h m.1)

    pub written_some : any ≡ true → (k : ℕ) × (k < length x) × (is k ≡ true)
    written_some e = let m = w.some e in (m.0, m.1, sym (f m.0 true m.1 m.2))

-- x after a write of r to its n items from a on
module _ {T : Type 0} (x r : List T) (a n : ℕ) (long : a + n ≤ length x) (same : length r ≡ n) (d : T) where
  pub put_inside : (k l : ℕ) → k ≡ a + l → l < n → get_or (put_mid a n x r) k d ≡ get_or r l d
  put_inside k l e h =
      let f : k - a ≡ l = omega arith in
      get_or-append_right (take a x) (r ++ post_of a n x) a k d (length-take-le a x (omega arith)) (omega arith) ∙ rw f (get_or-append r (post_of a n x) d l (omega arith))

  pub put_outside : (k : ℕ) → (k < a) ⊎ (a + n ≤ k) → get_or (put_mid a n x r) k d ≡ get_or x k d
  put_outside k (inl h) = get_or-append (take a x) (r ++ post_of a n x) d k (omega (arith, length-take-le a x (omega arith))) ∙ get_or-take a x k d h
  put_outside k (inr h) =
      let e : a + (n + ((k - a) - n)) ≡ k = omega arith in
      get_or-append_right (take a x) (r ++ post_of a n x) a k d (length-take-le a x (omega arith)) (omega arith) ∙ get_or-append_right r (post_of a n x) n (k - a) d same (omega arith)
      ∙ get_or-drop n (drop a x) ((k - a) - n) d ∙ get_or-drop a x (n + ((k - a) - n)) d ∙ ap (λ k. get_or x k d) e

-- the bytes of a table, where its first n are written
pub prefix_written : (test : ℕ → ℕ → Bool → Type 0) (value : ℕ) (x y : List ℕ) (n : ℕ) (any : Bool) (is : ℕ → Bool) → n ≤ length x → length y ≡ n
    → WrittenWhere test value (take n x) any y → ((k : ℕ) (b : Bool) → k < n → test k (get_or (take n x) k value) b → b ≡ is k)
    → (k : ℕ) → get_or (put_mid 0 n x y) k 0 ≡ cond (ltb k n && is k) value (get_or x k 0)
prefix_written test value x y n any is long e w f k = at (cases_lt k n)
  where
    len : length (take n x) ≡ n
    len = length-take-le n x long

    at : (k < n) ⊎ (n ≤ k) → get_or (put_mid 0 n x y) k 0 ≡ cond (ltb k n && is k) value (get_or x k 0)
    at (inl h) =
        rw (lt-ltb k n h) (put_inside x y 0 n (omega arith) e 0 k k (omega arith) h ∙ get_or_default y k 0 value (omega arith)
        ∙ written_at test value (take n x) is any y w (λ k b h. f k b (omega (arith, len))) k (omega (arith, len))
        ∙ ap (λ v. cond (is k) value v) (get_or-take n x k value h ∙ get_or_default x k value 0 (omega arith)))
    at (inr past) = rw (le-ltb k n past) (put_outside x y 0 n (omega arith) e 0 k (inr (omega arith)))

-- and the marks, where a place is marked then exactly if it was or L holds
marks_written : (test : ℕ → Bool → Bool → Type 0) (L : ℕ → Type 0) (x y : List Bool) (n : ℕ) (any : Bool) → n ≤ length x → length y ≡ n
    → WrittenWhere test true (take n x) any y
    → ((k : ℕ) (b : Bool) → k < n → test k (get_or (take n x) k true) b → Decides (cond b true (get_or (take n x) k true)) ((get_or (take n x) k true ≡ true) ⊎ L k))
    → Marked L n x (put_mid 0 n x y)
marks_written test L x y n any long e w f = record { before = before; past = λ k h. put_outside x y 0 n (omega arith) e false k (inr (omega arith)) }
  where
    before : (k : ℕ) → k < n → Decides (get_or (put_mid 0 n x y) k false) ((get_or x k false ≡ true) ⊎ L k)
    before k h =
        let m = w.before k (omega (arith, length-take-le n x long)) in
        let at : get_or (put_mid 0 n x y) k false ≡ cond m.0 true (get_or x k false) =
        put_inside x y 0 n (omega arith) e false k k (omega arith) h ∙ get_or_default y k false true (omega arith) ∙ m.2
        ∙ ap (λ v. cond m.0 true v) (get_or-take n x k true h ∙ get_or_default x k true false (omega arith)) in
        let same : get_or (take n x) k true ≡ get_or x k false = get_or-take n x k true h ∙ get_or_default x k true false (omega arith) in
        rw at (subst (λ v. Decides (cond m.0 true v) ((v ≡ true) ⊎ L k)) same (f k m.0 h m.1))

-- where the test of n is whether L holds
pub marked : (test : ℕ → Bool → Bool → Type 0) (L : ℕ → Type 0) (x y : List Bool) (n : ℕ) (any : Bool) → n ≤ length x → length y ≡ n
    → WrittenWhere test true (take n x) any y → ((k : ℕ) (b : Bool) → k < n → test k (get_or (take n x) k true) b → Decides b (L k)) → Marked L n x (put_mid 0 n x y)
marked test L x y n any long e w f = marks_written test L x y n any long e w (λ k b h t. held b (L k) (get_or (take n x) k true) (f k b h t))
  where
    held : (b : Bool) (P : Type 0) (v : Bool) → Decides b P → Decides (cond b true v) ((v ≡ true) ⊎ P)
    held true P v d = (λ _. inr (d.0 refl), λ _. refl)
    held false P v d = (λ e. inl e, λ m. ⊎_elim (λ e. e) (λ p. absurd (true≢false (sym (d.1 p)))) m)

-- where the test of n is whether it is marked or L holds
pub marked_or : (test : ℕ → Bool → Bool → Type 0) (L : ℕ → Type 0) (x y : List Bool) (n : ℕ) (any : Bool) → n ≤ length x → length y ≡ n
    → WrittenWhere test true (take n x) any y → ((k : ℕ) (b : Bool) → k < n → test k (get_or (take n x) k true) b → Decides b ((get_or (take n x) k true ≡ true) ⊎ L k)) → Marked L n x (put_mid 0 n x y)
marked_or test L x y n any long e w f = marks_written test L x y n any long e w (λ k b h t. held b (L k) (get_or (take n x) k true) (f k b h t))
  where
    held : (b : Bool) (P : Type 0) (v : Bool) → Decides b ((v ≡ true) ⊎ P) → Decides (cond b true v) ((v ≡ true) ⊎ P)
    held true P v d = (λ _. d.0 refl, λ _. refl)
    held false P v d = (λ e. inl e, λ m. absurd (true≢false (sym (d.1 m))))
