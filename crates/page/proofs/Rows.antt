-- The lists that a page's bytes stand for: their lengths, and that they are the page's. Assumes nothing.
use Rattle.std.proofs.Common.{◌≡◌, ℕ, zero, suc, ◌+◌, ◌/◌, ◌%◌, ◌<◌, ◌≤◌, List, [], ◌∷◌, ◌++◌, length, get_or, take, drop, sum, sym, refl, ap, ◌∙◌, suc-add, zero-add, add-one, arith}
use native.Mathlib.Decide.{dec_lt}
use Rattle.std.proofs.lemmas.List.{length-take-le, length-drop, take_all, take_more, drop_more, drop_all, take-append-drop, drop-drop, length-map, map-append}
use Rattle.std.proofs.lemmas.List.Sums.{sum_by_more, sum_by_more_le}
use Rattle.triple.specs.Stores.{total}
use Rattle.page.specs.Format.{of_node, fans_of, arcs_of, properties_of, objects_of, page_of}
use Rattle.page.specs.Reading.{pairs, rows, Whole}

-- the first of what is left of a list
pub drop_head : (xs : List ℕ) (i x : ℕ) (rest : List ℕ) → x ∷ rest ≡ drop i xs → (i < length xs) × (x ≡ get_or xs i 0) × (rest ≡ drop (i + 1) xs)
drop_head xs i x rest e = here (dec_lt i (length xs))
  where
    here : Dec (i < length xs) → (i < length xs) × (x ≡ get_or xs i 0) × (rest ≡ drop (i + 1) xs)
    here (yes h) = let split = drop_more xs i 0 h in (h, cc, cc)
    here (no n) = let none = drop_all i xs (omega arith) in let z : ◌≡◌ {A = ℕ} 0 1 = cc in absurd (omega arith)

pub length_pairs : (ps os : List ℕ) → length os ≡ length ps → length (pairs ps os) ≡ length ps
length_pairs [] os e = refl
length_pairs (p ∷ ps) [] e = omega arith
length_pairs (p ∷ ps) (o ∷ os) e = ap suc (length_pairs ps os (omega arith))

pub pairs_split : (ps os : List ℕ) (i : ℕ) → i < length ps → length os ≡ length ps
    → pairs ps os ≡ pairs (take i ps) (take i os) ++ ((get_or ps i 0, get_or os i 0) ∷ [] ++ pairs (drop (suc i) ps) (drop (suc i) os))
pairs_split [] os i h e = let z : ⊥ = omega arith in elim z [ ]
pairs_split (p ∷ ps) [] i h e = let z : ⊥ = omega arith in elim z [ ]
pairs_split (p ∷ ps) (o ∷ os) zero h e = refl
pairs_split (p ∷ ps) (o ∷ os) (suc i) h e = ap (λ z. (p, o) ∷ z) (pairs_split ps os i (omega arith) (omega arith))

pub pairs_more : (ps os : List ℕ) (i : ℕ) → i < length ps → length os ≡ length ps
    → pairs (take (suc i) ps) (take (suc i) os) ≡ pairs (take i ps) (take i os) ++ (get_or ps i 0, get_or os i 0) ∷ []
pairs_more [] os i h e = let z : ⊥ = omega arith in elim z [ ]
pairs_more (p ∷ ps) [] i h e = let z : ⊥ = omega arith in elim z [ ]
pairs_more (p ∷ ps) (o ∷ os) zero h e = refl
pairs_more (p ∷ ps) (o ∷ os) (suc i) h e = ap (λ z. (p, o) ∷ z) (pairs_more ps os i (omega arith) (omega arith))

pub pairs_append : (ps os : List ℕ) (i f : ℕ) → i + f ≤ length ps → length os ≡ length ps
    → pairs (take (i + f) ps) (take (i + f) os) ≡ pairs (take i ps) (take i os) ++ pairs (take f (drop i ps)) (take f (drop i os))
pairs_append ps os zero f h e = simp zero-add refl
pairs_append [] os (suc i) f h e = let z : ⊥ = omega arith in elim z [ ]
pairs_append (p ∷ ps) [] (suc i) f h e = let z : ⊥ = omega arith in elim z [ ]
pairs_append (p ∷ ps) (o ∷ os) (suc i) f h e =
    simp suc-add (ap (λ z. (p, o) ∷ z) (pairs_append ps os i f (omega arith) (omega arith)))

pub properties_pairs : (ps os : List ℕ) → length os ≡ length ps → properties_of (pairs ps os) ≡ ps
properties_pairs [] os e = refl
properties_pairs (p ∷ ps) [] e = let z : ⊥ = omega arith in elim z [ ]
properties_pairs (p ∷ ps) (o ∷ os) e = ap (λ z. p ∷ z) (properties_pairs ps os (omega arith))

pub objects_pairs : (ps os : List ℕ) → length os ≡ length ps → objects_of (pairs ps os) ≡ os
objects_pairs [] [] e = refl
objects_pairs [] (o ∷ os) e = let z : ⊥ = omega arith in elim z [ ]
objects_pairs (p ∷ ps) [] e = let z : ⊥ = omega arith in elim z [ ]
objects_pairs (p ∷ ps) (o ∷ os) e = ap (λ z. o ∷ z) (objects_pairs ps os (omega arith))

-- the triples of one node, up to a place, at it, and after
pub node_split : (s : ℕ) (ps os : List ℕ) (i : ℕ) → i < length ps → length os ≡ length ps
    → of_node s (pairs ps os) ≡ of_node s (pairs (take i ps) (take i os)) ++ ((s, get_or ps i 0, get_or os i 0) ∷ [] ++ of_node s (pairs (drop (suc i) ps) (drop (suc i) os)))
node_split s ps os i h e = ap (of_node s) (pairs_split ps os i h e) ∙ map-append (λ a. (s, a.0, a.1)) (pairs (take i ps) (take i os)) _

pub node_more : (s : ℕ) (ps os : List ℕ) (i : ℕ) → i < length ps → length os ≡ length ps
    → of_node s (pairs (take i ps) (take i os)) ++ (s, get_or ps i 0, get_or os i 0) ∷ [] ≡ of_node s (pairs (take (i + 1) ps) (take (i + 1) os))
node_more s ps os i h e =
    sym (map-append (λ a. (s, a.0, a.1)) (pairs (take i ps) (take i os)) ((get_or ps i 0, get_or os i 0) ∷ []))
    ∙ ap (of_node s) (sym (pairs_more ps os i h e)) ∙ ap (λ k. of_node s (pairs (take k ps) (take k os))) (sym (add-one i))

pub length_node : (s : ℕ) (ps os : List ℕ) (i : ℕ) → i ≤ length ps → length os ≡ length ps → length (of_node s (pairs (take i ps) (take i os))) ≡ i
length_node s ps os i h e =
    let pl : length (take i ps) ≡ i = length-take-le i ps h in
    let ol : length (take i os) ≡ i = length-take-le i os (omega arith) in
    length-map (pairs (take i ps) (take i os)) (λ a. (s, a.0, a.1)) ∙ length_pairs _ _ (ol ∙ sym pl) ∙ pl

-- a row, as it is cut out of the bytes
pub row_is : (fans ps os : List ℕ) (m at k : ℕ) → at ≡ sum (take m fans) → k ≡ get_or fans m 0 → pairs (take k (drop at ps)) (take k (drop at os)) ≡ rows fans ps os m
row_is fans ps os m at k e f = cc

-- a page, cut into its parts
pub page_parts : (n t : ℕ) (bytes : List ℕ) → Whole n t bytes
    → bytes ≡ n % 256 ∷ n / 256 ∷ (take n (drop 2 bytes) ++ (take t (drop (2 + n) bytes) ++ drop (2 + n + t) bytes))
page_parts n t bytes w =
    sym (take-append-drop 2 bytes) ∙ ap (λ z. z ++ drop 2 bytes) w.count
    ∙ ap (λ z. n % 256 ∷ n / 256 ∷ z)
    (sym (take-append-drop n (drop 2 bytes)) ∙ ap (λ z. take n (drop 2 bytes) ++ z)
    (drop-drop n 2 bytes ∙ sym (take-append-drop t (drop (2 + n) bytes)) ∙ ap (λ z. take t (drop (2 + n) bytes) ++ z) (drop-drop t (2 + n) bytes)))

-- the arcs of a node end within all
-- properties and objects are as many as the fans say
module _ (fans ps os : List ℕ) (ep : length ps ≡ sum fans) (eo : length os ≡ sum fans) where
  pub row_length : (m : ℕ) → m < length fans → length (rows fans ps os m) ≡ get_or fans m 0
  row_length m h =
      let within = sum_by_more_le (λ x. x) fans m 0 h in
      let pl : length (take (get_or fans m 0) (drop (sum (take m fans)) ps)) ≡ get_or fans m 0 = length-take-le _ _ (simp length-drop (omega arith)) in
      let ol : length (take (get_or fans m 0) (drop (sum (take m fans)) os)) ≡ get_or fans m 0 = length-take-le _ _ (simp length-drop (omega arith)) in
      length_pairs _ _ (ol ∙ sym pl) ∙ pl

  pub rows_fans : (m : ℕ) → m ≤ length fans → fans_of m (rows fans ps os) ≡ take m fans
  rows_fans zero h = refl
  rows_fans (suc m) h =
      let more : take (suc m) fans ≡ take m fans ++ get_or fans m 0 ∷ [] = rw add-one at (take_more fans m 0 (omega arith)) in
      ap (λ z. z ++ length (rows fans ps os m) ∷ []) (rows_fans m (omega arith)) ∙ ap (λ k. take m fans ++ k ∷ []) (row_length m (omega arith)) ∙ sym more

  pub rows_total : (m : ℕ) → m ≤ length fans → total m (rows fans ps os) ≡ sum (take m fans)
  rows_total zero h = refl
  rows_total (suc m) h =
      let more : sum (take (suc m) fans) ≡ sum (take m fans) + get_or fans m 0 = rw add-one at (sum_by_more (λ x. x) fans m 0 (omega arith)) in
      omega (arith, rows_total m (omega arith), row_length m (omega arith), more)

  pub rows_arcs : (m : ℕ) → m ≤ length fans → arcs_of m (rows fans ps os) ≡ pairs (take (sum (take m fans)) ps) (take (sum (take m fans)) os)
  rows_arcs zero h = refl
  rows_arcs (suc m) h =
      let more : sum (take (suc m) fans) ≡ sum (take m fans) + get_or fans m 0 = rw add-one at (sum_by_more (λ x. x) fans m 0 (omega arith)) in
      let within = sum_by_more_le (λ x. x) fans m 0 (omega arith) in
      ap (λ z. z ++ rows fans ps os m) (rows_arcs m (omega arith))
      ∙ sym (pairs_append ps os (sum (take m fans)) (get_or fans m 0) (omega arith) (eo ∙ sym ep))
      ∙ ap (λ k. pairs (take k ps) (take k os)) (sym more)

  pub rows_page : (n : ℕ) → length fans ≡ n → page_of n (rows fans ps os) ≡ n % 256 ∷ n / 256 ∷ (fans ++ (ps ++ os))
  rows_page n e =
      let all : take n fans ≡ fans = take_all n fans (omega arith) in
      let first : fans_of n (rows fans ps os) ≡ fans = rows_fans n (omega arith) ∙ all in
      let arcs : arcs_of n (rows fans ps os) ≡ pairs ps os =
      rows_arcs n (omega arith) ∙ ap (λ k. pairs (take (sum k) ps) (take (sum k) os)) all
      ∙ ap (λ z. pairs z (take (sum fans) os)) (take_all (sum fans) ps (omega arith)) ∙ ap (λ z. pairs ps z) (take_all (sum fans) os (omega arith)) in
      let level : length os ≡ length ps = eo ∙ sym ep in
      let left : properties_of (arcs_of n (rows fans ps os)) ≡ ps = ap properties_of arcs ∙ properties_pairs ps os level in
      let right : objects_of (arcs_of n (rows fans ps os)) ≡ os = ap objects_of arcs ∙ objects_pairs ps os level in
      cc
