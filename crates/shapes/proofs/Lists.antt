-- Members, splits and permutations of lists.
use Rattle.std.proofs.Common.{◌≡◌, ℕ, zero, suc, ◌+◌, ◌<◌, ◌≤◌, ◌⊎◌, ◌↔◌, List, [], ◌∷◌, ◌++◌, length, get_or, Some, sym, refl, ap, subst, inl, inr, ⊎_elim, arith}
use Rattle.std.specs.List.{slice_get}
use Rattle.shapes.specs.Lists.{Member, first, later, NoRepeats, Permuted, none, keep, swap, then, Split, nil, left, right, Parts}

-- members
pub member_cons : {A : Type 0} {a b : A} {zs : List A} → Member b (a ∷ zs) → (a ≡ b) ⊎ Member b zs
member_cons first = inl refl
member_cons (later m) = inr m

pub member_at : {A : Type 0} (zs : List A) (i : ℕ) (d : A) → i < length zs → Member (get_or zs i d) zs
member_at [] i d h = absurd (omega arith)
member_at (z ∷ zs) zero d h = first
member_at (z ∷ zs) (suc i) d h = later (member_at zs i d (omega arith))

pub member_place : {A : Type 0} {a : A} {zs : List A} → Member a zs → (d : A) → (i : ℕ) × (i < length zs) × (get_or zs i d ≡ a)
member_place first d = (0, omega arith, refl)
member_place (later m) d = let h = member_place m d in (suc h.0, omega (arith, h.1), h.2)

pub nth_member : {A : Type 0} (zs : List A) (i : ℕ) (a : A) → slice_get zs i ≡ Some a → Member a zs
nth_member [] i a e = let z : ◌≡◌ {A = ℕ} 0 1 = cc in absurd (omega arith)
nth_member (z ∷ zs) zero a e = let x : z ≡ a = cc in subst (λ y. Member y (z ∷ zs)) x first
nth_member (z ∷ zs) (suc i) a e = later (nth_member zs i a e)

-- one more element at the end
pub member_push : {A : Type 0} {a : A} (xs : List A) (x : A) → Member a xs → Member a (xs ++ (x ∷ []))
member_push [] x m = elim m [ ]
member_push (y ∷ xs) x first = first
member_push (y ∷ xs) x (later m) = later (member_push xs x m)

pub member_last : {A : Type 0} (xs : List A) (x : A) → Member x (xs ++ (x ∷ []))
member_last [] x = first
member_last (y ∷ xs) x = later (member_last xs x)

pub member_pushed : {A : Type 0} {a : A} (xs : List A) (x : A) → Member a (xs ++ (x ∷ [])) → Member a xs ⊎ (a ≡ x)
member_pushed [] x first = inr refl
member_pushed [] x (later m) = elim m [ ]
member_pushed (y ∷ xs) x first = inl first
member_pushed (y ∷ xs) x (later m) = ⊎_elim (λ n. inl (later n)) inr (member_pushed xs x m)

-- splits
pub split_left_member : {A : Type 0} {a : A} {zs xs ys : List A} → Split zs xs ys → Member a xs → Member a zs
split_left_member nil m = m
split_left_member (left s) first = first
split_left_member (left s) (later m) = later (split_left_member s m)
split_left_member (right s) m = later (split_left_member s m)

pub split_right_member : {A : Type 0} {a : A} {zs xs ys : List A} → Split zs xs ys → Member a ys → Member a zs
split_right_member nil m = m
split_right_member (right s) first = first
split_right_member (right s) (later m) = later (split_right_member s m)
split_right_member (left s) m = later (split_right_member s m)

pub split_length : {A : Type 0} {zs xs ys : List A} → Split zs xs ys → length zs ≡ length xs + length ys
split_length nil = refl
split_length (left s) = let e = split_length s in omega arith
split_length (right s) = let e = split_length s in omega arith

pub split_none_left : {A : Type 0} {zs ys : List A} → Split zs [] ys → zs ≡ ys
split_none_left nil = refl
split_none_left (right {a = a} s) = ap (λ l. a ∷ l) (split_none_left s)

pub split_all_right : {A : Type 0} (zs : List A) → Split zs [] zs
split_all_right [] = nil
split_all_right (z ∷ zs) = right (split_all_right zs)

-- the first element of a list that splits goes left or right
pub split_cons : {A : Type 0} (Q R : List A → Type 0) {a : A} {zs xs ys : List A} → Split (a ∷ zs) xs ys → Q xs → R ys
    → ((xs ys : List A) × Split zs xs ys × Q (a ∷ xs) × R ys) ⊎ ((xs ys : List A) × Split zs xs ys × Q xs × R (a ∷ ys))
split_cons Q R (left {xs = xs} {ys = ys} s) q r = inl (xs, ys, s, q, r)
split_cons Q R (right {xs = xs} {ys = ys} s) q r = inr (xs, ys, s, q, r)

pub split_nil : {A : Type 0} (Q R : List A → Type 0) {xs ys : List A} → Split [] xs ys → Q xs → R ys → Q [] × R []
split_nil Q R nil q r = (q, r)

-- with more parts than elements, one part is empty and can be left out
module _ {A : Type 0} (Q : List A → Type 0) where
  parts_one_less : (k : ℕ) (zs : List A) → length zs ≤ k → Parts Q (suc k) zs → Parts Q k zs
  parts_one_less k zs h ([], ys, s, q, r) = subst (Parts Q k) (sym (split_none_left s)) r
  parts_one_less zero zs h (x ∷ xs, ys, s, q, r) = let e = split_length s in absurd (omega arith)
  parts_one_less (suc k) zs h (x ∷ xs, ys, s, q, r) = let e = split_length s in (x ∷ xs, ys, s, q, parts_one_less k ys (omega arith) r)

  pub parts_fewer : (d k : ℕ) (zs : List A) → length zs ≤ k → Parts Q (d + k) zs → Parts Q k zs
  parts_fewer zero k zs h p = subst (λ n. Parts Q n zs) (omega arith) p
  parts_fewer (suc d) k zs h p =
      let e : suc d + k ≡ suc (d + k) = omega arith in
      parts_fewer d k zs h (parts_one_less (d + k) zs (omega arith) (subst (λ n. Parts Q n zs) e p))

  -- and empty parts can be added where Q has the empty list
  pub parts_more : (d k : ℕ) (zs : List A) → Q [] → Parts Q k zs → Parts Q (d + k) zs
  parts_more zero k zs q p = let e : k ≡ 0 + k = omega arith in subst (λ n. Parts Q n zs) e p
  parts_more (suc d) k zs q p =
      let e : suc (d + k) ≡ suc d + k = omega arith in
      subst (λ n. Parts Q n zs) e ([], zs, split_all_right zs, q, parts_more d k zs q p)

-- permutations
pub permuted_refl : {A : Type 0} (zs : List A) → Permuted zs zs
permuted_refl [] = none
permuted_refl (z ∷ zs) = keep (permuted_refl zs)

pub permuted_sym : {A : Type 0} {xs ys : List A} → Permuted xs ys → Permuted ys xs
permuted_sym none = none
permuted_sym (keep p) = keep (permuted_sym p)
permuted_sym swap = swap
permuted_sym (then p q) = then (permuted_sym q) (permuted_sym p)

pub permuted_member : {A : Type 0} {a : A} {xs ys : List A} → Permuted xs ys → Member a xs → Member a ys
permuted_member none m = m
permuted_member (keep p) first = first
permuted_member (keep p) (later m) = later (permuted_member p m)
permuted_member swap first = later first
permuted_member swap (later first) = first
permuted_member swap (later (later m)) = later (later m)
permuted_member (then p q) m = permuted_member q (permuted_member p m)

pub permuted_nil : {A : Type 0} {xs ys : List A} → Permuted xs ys → xs ≡ [] → ys ≡ []
permuted_nil none e = e
permuted_nil (keep p) e = let z : ◌≡◌ {A = ℕ} 0 1 = cc in absurd (omega arith)
permuted_nil swap e = let z : ◌≡◌ {A = ℕ} 0 1 = cc in absurd (omega arith)
permuted_nil (then p q) e = permuted_nil q (permuted_nil p e)

pub permuted_one : {A : Type 0} {xs ys : List A} (a : A) → Permuted xs ys → xs ≡ a ∷ [] → ys ≡ a ∷ []
permuted_one a none e = e
permuted_one a (keep {a = b} {xs = xs} {ys = ys} p) e =
    let q : xs ≡ [] = cc in
    let r : b ≡ a = cc in
    let s : ys ≡ [] = permuted_nil p q in
    cc
permuted_one a swap e = let z : ◌≡◌ {A = ℕ} 0 1 = cc in absurd (omega arith)
permuted_one a (then p q) e = permuted_one a q (permuted_one a p e)

pub split_permuted : {A : Type 0} {zs ws xs ys : List A} → Permuted zs ws → Split zs xs ys
    → (us vs : List A) × Split ws us vs × Permuted xs us × Permuted ys vs
split_permuted none nil = ([], [], nil, none, none)
split_permuted (keep {a = a} p) (left s) = let h = split_permuted p s in (a ∷ h.0, h.1, left h.2, keep h.3, h.4)
split_permuted (keep {a = a} p) (right s) = let h = split_permuted p s in (h.0, a ∷ h.1, right h.2, h.3, keep h.4)
split_permuted swap (left (left s)) = (_, _, left (left s), swap, permuted_refl _)
split_permuted swap (left (right s)) = (_, _, right (left s), permuted_refl _, permuted_refl _)
split_permuted swap (right (left s)) = (_, _, left (right s), permuted_refl _, permuted_refl _)
split_permuted swap (right (right s)) = (_, _, right (right s), permuted_refl _, swap)
split_permuted (then p q) s =
    let h = split_permuted p s in
    let g = split_permuted q h.2 in
    (g.0, g.1, g.2, then h.3 g.3, then h.4 g.4)

pub parts_permuted : {A : Type 0} (Q : List A → Type 0) → ((xs ys : List A) → Permuted xs ys → Q xs → Q ys)
    → (k : ℕ) (zs ws : List A) → Permuted zs ws → Parts Q k zs → Parts Q k ws
parts_permuted Q f zero zs ws p e = permuted_nil p e
parts_permuted Q f (suc k) zs ws p (xs, ys, s, q, r) =
    let h = split_permuted p s in
    (h.0, h.1, h.2, f xs h.0 h.3 q, parts_permuted Q f k ys h.1 h.4 r)

-- two lists without repeats that have the same members are permutations of each other
module _ {A : Type 0} where
  -- a list that has a, as a and the rest
  record Without (a : A) (ys : List A) : Type 0 where
    pub rest : List A
    pub moved : Permuted (a ∷ rest) ys
    pub clean : NoRepeats ys → (¬ Member a rest) × NoRepeats rest

  take_out : {a : A} {ys : List A} → Member a ys → Without a ys
  take_out {a} (first {zs = zs}) = record { rest = zs; moved = permuted_refl (a ∷ zs); clean = λ h. h }
  take_out {a} (later {b = c} {zs = zs} m) =
      let o = take_out m in
      record {
        rest = c ∷ o.rest;
        moved = then swap (keep o.moved);
        clean = λ h. (
          λ n. elim (member_cons n) [ inl e ↦ h.0 (subst (λ d. Member d zs) (sym e) m) | inr n ↦ (o.clean h.1).0 n ],
          (λ n. h.0 (permuted_member o.moved (later n)), (o.clean h.1).1),
        );
      }

  pub permuted_from_members : (xs ys : List A) → NoRepeats xs → NoRepeats ys → ((a : A) → Member a xs ↔ Member a ys) → Permuted xs ys
  permuted_from_members [] [] h g e = none
  permuted_from_members [] (y ∷ ys) h g e = elim ((e y).1 first) [ ]
  permuted_from_members (x ∷ xs) ys h g e =
      let o = take_out ((e x).0 first) in
      then (keep (permuted_from_members xs o.rest h.1 (o.clean g).1 (λ a. (forth a o, back a o)))) o.moved
    where
      forth : (a : A) (o : Without x ys) → Member a xs → Member a o.rest
      forth a o m =
          elim (member_cons (permuted_member (permuted_sym o.moved) ((e a).0 (later m))))
          [ inl q ↦ absurd (h.0 (subst (λ d. Member d xs) (sym q) m)) | inr n ↦ n ]

      back : (a : A) (o : Without x ys) → Member a o.rest → Member a xs
      back a o m =
          elim (member_cons ((e a).1 (permuted_member o.moved (later m))))
          [ inl q ↦ absurd ((o.clean g).0 (subst (λ d. Member d o.rest) (sym q) m)) | inr n ↦ n ]
