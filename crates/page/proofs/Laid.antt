-- Bytes laid over a buffer, one more at a time; lengths of the parts of a page. Assumes nothing.
use Rattle.std.proofs.Common.{◌≡◌, ℕ, zero, suc, ◌+◌, ◌-◌, ◌*◌, ◌/◌, ◌%◌, ◌<◌, ◌≤◌, true, false, ltb, List, [], ◌∷◌, ◌++◌, length, get_or, take, drop, set, Some, Ok, Err, Result, sym, refl, ap, ◌∙◌, subst, ⊎_elim, add-one, arith}
use borrow.Rule.Slice.PartMut.{put_mid}
use mir.Syntax.{w16}
use Rattle.std.specs.Int.{to_le_bytes}
use Rattle.std.proofs.lemmas.Slice.{take-put_mid, drop-put_mid}
use Rattle.refusal.specs.declared.Layer.TheVariants.{Page}
use Rattle.std.specs.List.{slice_get}
use Rattle.std.proofs.lemmas.Option.{slice_get-get_or}
use Rattle.std.proofs.lemmas.Bool.{cases_eq, and_parts, ltb-true, lt-ltb, le-ltb, cond-true, cond-false}
use Rattle.std.proofs.lemmas.List.{take_more, take_more_set, length-take, length-set, drop-set-lt, append_assoc, append-nil, length-append, length-drop, length-take-le, length-map, length_push, drop_more, drop_all, set_at, set-append_left, set-append_right, map_push, take-append-drop}
use Rattle.triple.specs.Arcs.{Arc, inside}
use Rattle.triple.specs.Stores.{Lists, total}
use Rattle.page.specs.Faults.{Told, nothing}
use Rattle.page.specs.Format.{save_answer, save_after, fans_of, arcs_of, properties_of, objects_of, page_of, over}
use Rattle.page.specs.Laying.{laid}

pub over_push : (xs ys : List ℕ) (v k : ℕ) → length ys ≡ k → k < length xs → set (over xs ys) k v ≡ over xs (ys ++ v ∷ [])
over_push xs ys v k e h =
    let front : set (over xs ys) k v ≡ ys ++ v ∷ drop (k + 1) xs = rw e (ap (λ z. set (ys ++ z) k v) (drop_more xs k 0 h) ∙ set_at ys _ _ v k e) in
    front ∙ sym (rw (length_push ys v, e) (append_assoc ys (v ∷ []) (drop (k + 1) xs)))

pub length_over : (xs ys : List ℕ) → length ys ≤ length xs → length (over xs ys) ≡ length xs
length_over xs ys h = simp (length-append, length-drop) (omega arith)

pub over_whole : (xs ys : List ℕ) → length ys ≡ length xs → over xs ys ≡ ys
over_whole xs ys e = ap (λ z. ys ++ z) (drop_all (length ys) xs (omega arith)) ∙ append-nil ys

pub laid_push : (buffer : List ℕ) (half : ℕ) (done : List Arc) (p o at : ℕ) → length buffer ≡ half + half → at ≡ length done → at < half
    → set (set (laid buffer half done) at p) (half + at) o ≡ laid buffer half (done ++ (p, o) ∷ [])
laid_push buffer half done p o at size e h =
    let left = take half buffer in
    let right = drop half buffer in
    let left_long : length left ≡ half = length-take-le half buffer (omega arith) in
    let right_long : length right ≡ half = length-drop half buffer ∙ omega arith in
    let fst_long : length (properties_of done) ≡ at = length-map done (λ a. a.0) ∙ sym e in
    let snd_long : length (objects_of done) ≡ at = length-map done (λ a. a.1) ∙ sym e in
    let front : length (over left (properties_of done)) ≡ half = length_over left (properties_of done) (omega arith) ∙ left_long in
    let one = set-append_left (over left (properties_of done)) (over right (objects_of done)) at p (omega arith) in
    let put_left : set (over left (properties_of done)) at p ≡ over left (properties_of (done ++ (p, o) ∷ [])) =
    over_push left (properties_of done) p at fst_long (omega arith) ∙ ap (over left) (sym (map_push (λ a. a.0) done (p, o))) in
    let put_right : set (over right (objects_of done)) at o ≡ over right (objects_of (done ++ (p, o) ∷ [])) =
    over_push right (objects_of done) o at snd_long (omega arith) ∙ ap (over right) (sym (map_push (λ a. a.1) done (p, o))) in
    let new_front : length (over left (properties_of (done ++ (p, o) ∷ []))) ≡ half =
    length_over left _ (simp (length-map, length_push) (omega arith)) ∙ left_long in
    let two = set-append_right (over left (properties_of (done ++ (p, o) ∷ []))) (over right (objects_of done)) half (half + at) o new_front (omega arith) in
    let back : (half + at) - half ≡ at = omega arith in
    ap (λ z. set z (half + at) o) (one ∙ ap (λ z. z ++ over right (objects_of done)) put_left)
    ∙ two
    ∙ ap (λ i. over left (properties_of (done ++ (p, o) ∷ [])) ++ set (over right (objects_of done)) i o) back
    ∙ ap (λ z. over left (properties_of (done ++ (p, o) ∷ [])) ++ z) put_right

pub laid_none : (buffer : List ℕ) (half : ℕ) → laid buffer half [] ≡ buffer
laid_none buffer half = take-append-drop half buffer

pub laid_all : (buffer : List ℕ) (half : ℕ) (arcs : List Arc) → length buffer ≡ half + half → length arcs ≡ half
    → laid buffer half arcs ≡ properties_of arcs ++ objects_of arcs
laid_all buffer half arcs size e =
    let left : length (properties_of arcs) ≡ length (take half buffer) = length-map arcs (λ a. a.0) ∙ e ∙ sym (length-take-le half buffer (omega arith)) in
    let right : length (objects_of arcs) ≡ length (drop half buffer) = simp (length-map, length-drop) (omega arith) in
    ap (λ z. z ++ over (drop half buffer) (objects_of arcs)) (over_whole _ _ left) ∙ ap (λ z. properties_of arcs ++ z) (over_whole _ _ right)

pub length_fans : (n : ℕ) (arcs : Lists) → length (fans_of n arcs) ≡ n
length_fans zero arcs = refl
length_fans (suc n) arcs = length_push (fans_of n arcs) (length (arcs n)) ∙ rw (length_fans n arcs) (add-one n)

pub length_arcs : (n : ℕ) (arcs : Lists) → length (arcs_of n arcs) ≡ total n arcs
length_arcs zero arcs = refl
length_arcs (suc n) arcs = length-append (arcs_of n arcs) (arcs n) ∙ ap (λ k. k + length (arcs n)) (length_arcs n arcs)

pub length_page : (n : ℕ) (arcs : Lists) → length (page_of n arcs) ≡ 2 + n + 2 * total n arcs
length_page n arcs = simp (length-append, length-map, length_fans, length_arcs) (omega arith)

-- a buffer after a save: head, fans and arcs, each written into its part
pub parts_over : (buffer fans arcs : List ℕ) (low high n t : ℕ) → length fans ≡ n → length arcs ≡ 2 * t → 2 + n + 2 * t ≤ length buffer
    → put_mid (2 + n) (2 + n + 2 * t - (2 + n)) (put_mid 2 (2 + n - 2) (set (set buffer 0 low) 1 high) fans) arcs ≡ over buffer (low ∷ high ∷ (fans ++ arcs))
parts_over buffer fans arcs low high n t fl al room =
    let head = set (set buffer 0 low) 1 high in
    let inner = put_mid 2 (2 + n - 2) head fans in
    let outer = put_mid (2 + n) (2 + n + 2 * t - (2 + n)) inner arcs in
    let head_long : length head ≡ length buffer = length-set (set buffer 0 low) 1 high ∙ length-set buffer 0 low in
    let two : take 2 head ≡ low ∷ high ∷ [] = take_more_set (set buffer 0 low) 1 high (simp length-set (omega arith)) ∙ ap (λ z. z ++ high ∷ []) (take_more_set buffer 0 low (omega arith)) in
    let front : take (2 + n) inner ≡ low ∷ high ∷ fans = take-put_mid 2 (2 + n - 2) head fans (2 + n) (omega arith) (omega arith) ∙ ap (λ z. z ++ fans) two in
    let inner_long : 2 + n ≤ length inner = omega (arith, length-take (2 + n) inner, ap length front) in
    let whole : take (2 + n + 2 * t) outer ≡ low ∷ high ∷ (fans ++ arcs) = take-put_mid (2 + n) (2 + n + 2 * t - (2 + n)) inner arcs (2 + n + 2 * t) (omega arith) inner_long ∙ ap (λ z. z ++ arcs) front in
    let rest : drop (2 + n + 2 * t) outer ≡ drop (2 + n + 2 * t) buffer =
    drop-put_mid (2 + n) (2 + n + 2 * t - (2 + n)) inner arcs (2 + n + 2 * t) (omega arith) inner_long (omega arith)
    ∙ drop-put_mid 2 (2 + n - 2) head fans (2 + n + 2 * t) (omega arith) (omega arith) (omega arith)
    ∙ drop-set-lt (2 + n + 2 * t) (set buffer 0 low) 1 high (omega arith)
    ∙ drop-set-lt (2 + n + 2 * t) buffer 0 low (omega arith) in
    let long : length (low ∷ high ∷ (fans ++ arcs)) ≡ 2 + n + 2 * t = simp length-append (omega arith) in
    sym (take-append-drop (2 + n + 2 * t) outer) ∙ ap (λ z. z ++ drop (2 + n + 2 * t) outer) whole
    ∙ ap (λ z. (low ∷ high ∷ (fans ++ arcs)) ++ z) (rest ∙ ap (λ k. drop k buffer) (sym long))

pub save_short : (buffer : List ℕ) (n : ℕ) (arcs : Lists) → length buffer < 2 + n + 2 * total n arcs
    → (◌≡◌ {A = Result ℕ Told} (Err ((Page, 23), nothing)) (save_answer buffer n arcs)) × (buffer ≡ save_after buffer n arcs)
save_short buffer n arcs h =
    let short : ltb (length buffer) (length (page_of n arcs)) ≡ true = lt-ltb _ _ (omega (arith, length_page n arcs)) in
    (sym (cond-true _ _ _ short), sym (cond-true _ _ _ short))

pub save_long : (buffer : List ℕ) (n : ℕ) (arcs : Lists) → 2 + n + 2 * total n arcs ≤ length buffer
    → (◌≡◌ {A = Result ℕ Told} (Ok (2 + n + 2 * total n arcs)) (save_answer buffer n arcs)) × (over buffer (page_of n arcs) ≡ save_after buffer n arcs)
save_long buffer n arcs h =
    let long : ltb (length buffer) (length (page_of n arcs)) ≡ false = le-ltb _ _ (omega (arith, length_page n arcs)) in
    (ap Ok (sym (length_page n arcs)) ∙ sym (cond-false _ _ _ long), sym (cond-false _ _ _ long))

-- the bytes of a count
pub count_bytes : (bytes : List ℕ) (n : ℕ) → n < 65536 → bytes ≡ to_le_bytes w16 n → (get_or bytes 0 0 ≡ n % 256) × (get_or bytes 1 0 ≡ n / 256)
count_bytes bytes n few e = (ap (λ (xs : List ℕ). get_or xs 0 0) e ∙ omega arith, ap (λ (xs : List ℕ). get_or xs 1 0) e ∙ omega arith)

-- the answer and the buffer of a save that fits, as its parts come
pub save_parts : (buffer fans bytes : List ℕ) (low high n t nodes : ℕ) (arcs : Lists) → low ≡ nodes % 256 → high ≡ nodes / 256 → n ≡ nodes → t ≡ total nodes arcs → fans ≡ fans_of nodes arcs
    → bytes ≡ properties_of (arcs_of nodes arcs) ++ objects_of (arcs_of nodes arcs) → 2 + n + 2 * t ≤ length buffer
    → (◌≡◌ {A = Result ℕ Told} (Ok (2 + n + 2 * t)) (save_answer buffer nodes arcs))
    × (put_mid (2 + n) (2 + n + 2 * t - (2 + n)) (put_mid 2 (2 + n - 2) (set (set buffer 0 low) 1 high) fans) bytes ≡ save_after buffer nodes arcs)
save_parts buffer fans bytes low high n t nodes arcs el eh en et ef eb room =
    let long = save_long buffer nodes arcs (omega arith) in
    let fans_long : length fans ≡ n = ap length ef ∙ length_fans nodes arcs ∙ sym en in
    let bytes_long : length bytes ≡ 2 * t = ap length eb ∙ simp (length-append, length-map, length_arcs) (omega arith) in
    let same : low ∷ high ∷ (fans ++ bytes) ≡ page_of nodes arcs = cc in
    let answer : 2 + n + 2 * t ≡ 2 + nodes + 2 * total nodes arcs = omega arith in
    (ap Ok answer ∙ long.0, parts_over buffer fans bytes low high n t fans_long bytes_long room ∙ ap (over buffer) same ∙ long.1)

-- the arcs of the nodes up to m are no more than all
pub total_within : (arcs : Lists) (n m : ℕ) → m < n → total m arcs + length (arcs m) ≤ total n arcs
total_within arcs zero m h = let z : ⊥ = omega arith in elim z [ ]
total_within arcs (suc n) m h =
    ⊎_elim
    (λ (e : m ≡ n). subst (λ k. total k arcs + length (arcs k) ≤ total n arcs + length (arcs n)) (sym e) (omega arith))
    (λ (d : m ≡ n → ⊥). let below = total_within arcs n m (omega arith) in omega (arith, below))
    (cases_eq m n)

-- an arc at a place of a list
pub nth_within : (xs : List Arc) (i : ℕ) (a : Arc) → slice_get xs i ≡ Some a → i < length xs
nth_within [] i a e = let z : ◌≡◌ {A = ℕ} 0 1 = cc in absurd (omega arith)
nth_within (x ∷ xs) zero a e = omega arith
nth_within (x ∷ xs) (suc i) a e = omega (arith, nth_within xs i a e)

pub nth_object : (n : ℕ) (xs : List Arc) (i p o : ℕ) → inside n xs ≡ true → slice_get xs i ≡ Some (p, o) → o < n
nth_object n [] i p o h e = let z : ◌≡◌ {A = ℕ} 0 1 = cc in absurd (omega arith)
nth_object n (x ∷ xs) zero p o h e =
    let same : x ≡ (p, o) = cc in
    subst (λ (a : Arc). a.1 < n) same (ltb-true _ _ (and_parts _ _ (and_parts _ _ h).0).1)
nth_object n (x ∷ xs) (suc i) p o h e = nth_object n xs i p o (and_parts _ _ h).1 e

pub take_nth : (xs : List Arc) (i : ℕ) (a : Arc) → slice_get xs i ≡ Some a → take (i + 1) xs ≡ take i xs ++ a ∷ []
take_nth xs i a e =
    let h = nth_within xs i a e in
    let here : get_or xs i a ≡ a = let known = slice_get-get_or xs i a h in cc in
    take_more xs i a h ∙ ap (λ z. take i xs ++ z ∷ []) here

pub laid_more : (buffer : List ℕ) (half : ℕ) (done arcs : List Arc) (at i p o : ℕ) → length buffer ≡ half + half → at ≡ length done → at + length arcs ≤ half → slice_get arcs i ≡ Some (p, o)
    → set (set (laid buffer half (done ++ take i arcs)) (at + i) p) (half + at + i) o ≡ laid buffer half (done ++ take (i + 1) arcs)
laid_more buffer half done arcs at i p o size e room here =
    let h = nth_within arcs i (p, o) here in
    let long : at + i ≡ length (done ++ take i arcs) = sym (length-append done (take i arcs) ∙ omega (arith, length-take-le i arcs (omega arith))) in
    let push = laid_push buffer half (done ++ take i arcs) p o (at + i) size long (omega arith) in
    ap (λ k. set (set (laid buffer half (done ++ take i arcs)) (at + i) p) k o) (omega arith)
    ∙ push
    ∙ ap (laid buffer half) (append_assoc done (take i arcs) ((p, o) ∷ []) ∙ ap (λ z. done ++ z) (sym (take_nth arcs i (p, o) here)))

-- what is left from a place on
pub left_some : (xs : List Arc) (i : ℕ) (a : Arc) (rest : List Arc) → drop i xs ≡ a ∷ rest → (slice_get xs i ≡ Some a) × (drop (i + 1) xs ≡ rest)
left_some xs i a rest e =
    let h : i < length xs = omega (arith, length-drop i xs, ap length e) in
    let more : get_or xs i a ∷ drop (i + 1) xs ≡ a ∷ rest = sym (drop_more xs i a h) ∙ e in
    let here : get_or xs i a ≡ a = cc in
    let behind : drop (i + 1) xs ≡ rest = cc in
    (slice_get-get_or xs i a h ∙ ap (λ (b : Arc). Some b) here, behind)
