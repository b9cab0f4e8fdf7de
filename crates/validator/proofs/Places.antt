-- Pairs by their places in a table of bytes. Assumes nothing.
use Rattle.std.proofs.Common.{◌≡◌, ℕ, zero, suc, ◌+◌, ◌*◌, ◌/◌, ◌<◌, ◌≤◌, Bool, true, false, cond, ◌&&◌, eqb, ltb, ◌↔◌, List, length, get_or, take, replicate, Decides, sym, refl, ap, ◌∙◌, ⊎_elim, div-lt_iff_lt-mul, mul-zero, arith}
use borrow.Rule.Slice.PartMut.{put_mid, post_of}
use Rattle.std.proofs.lemmas.List.{get_or_append_left, get_or-take, length-take-le}
use Rattle.std.proofs.lemmas.Nat.{mul-add-lt, mul-le, div-mul-add}
use Rattle.std.proofs.lemmas.Bool.{lt-ltb, cases_Bool}
use Rattle.std.proofs.lemmas.Bool.Decides.{Decides-and, Decides-eqb, Decides-ltb}
use Rattle.shapes.specs.Bytes.{place, byte_typing}
use Rattle.shapes.specs.Typing.{In}
use Rattle.validator.specs.Marks.{Forgot}

pub place_below : (nodes labels n l : ℕ) → n < nodes → l < labels → place labels n l < nodes * labels
place_below nodes labels n l h g = omega (arith, mul-add-lt n labels l nodes h g)

-- the row of a place
pub row_below : (nodes labels k : ℕ) → k < nodes * labels → k / labels < nodes
row_below nodes zero k h = let z : ⊥ = omega (arith, mul-zero nodes) in elim z [ ]
row_below nodes (suc w) k h = (div-lt_iff_lt-mul (omega arith)).1 h

-- what a table shows: the pair is there, and its byte is 1
pub decides_shown : (nodes labels : ℕ) (bytes : List ℕ) (n l : ℕ)
    → Decides (byte_typing nodes labels bytes n l) (((n < nodes) × (l < labels)) × (get_or bytes (place labels n l) 0 ≡ 1))
decides_shown nodes labels bytes n l =
    Decides-and (ltb n nodes && ltb l labels) (eqb (get_or bytes (place labels n l) 0) 1)
    (Decides-and (ltb n nodes) (ltb l labels) (Decides-ltb n nodes) (Decides-ltb l labels))
    (Decides-eqb (get_or bytes (place labels n l) 0) 1)

-- the first bytes of a table, after those of the marked nodes are cleared
pub forgot_part : (size n labels : ℕ) (marks : List Bool) (held first part : List ℕ) → n ≡ size → size ≤ length held → first ≡ take size held → length part ≡ length first
    → Forgot (length first) labels marks first part
    → (k : ℕ) → k < size → get_or (put_mid 0 n held part) k 0 ≡ cond (get_or marks (k / labels) false) 0 (get_or held k 0)
forgot_part size n labels marks held first part same room begins kept forgot k h =
    let whole : length first ≡ size = ap length begins ∙ length-take-le size held room in
    let here : get_or first k 0 ≡ get_or held k 0 = ap (λ (xs : List ℕ). get_or xs k 0) begins ∙ get_or-take size held k 0 h in
    let inside : k < length part = omega arith in
    get_or_append_left part (post_of 0 n held) 0 k inside ∙ forgot k ∙ rw (lt-ltb k (length first) (omega arith), here) refl

-- after the bytes of the marked nodes are cleared, the pairs of the other nodes are left
pub forgot_shown : (nodes labels : ℕ) (marks : List Bool) (held held' : List ℕ)
    → ((k : ℕ) → k < nodes * labels → get_or held' k 0 ≡ cond (get_or marks (k / labels) false) 0 (get_or held k 0))
    → (n l : ℕ) → In (byte_typing nodes labels held') n l ↔ (In (byte_typing nodes labels held) n l × (get_or marks n false ≡ false))
forgot_shown nodes labels marks held held' forgot n l = (
  λ h. let at = (decides_shown nodes labels held' n l).0 h in
      let change = byte at.0 in
      ⊎_elim
      (λ (m : get_or marks n false ≡ true). let z : ◌≡◌ {A = ℕ} 0 1 = sym (change ∙ rw m refl) ∙ at.1 in absurd (omega arith))
      (λ (m : get_or marks n false ≡ false). ((decides_shown nodes labels held n l).1 (at.0, sym (change ∙ rw m refl) ∙ at.1), m))
      (cases_Bool (get_or marks n false)),
  λ h. let at = (decides_shown nodes labels held n l).0 h.0 in
      (decides_shown nodes labels held' n l).1 (at.0, byte at.0 ∙ rw h.1 at.1),
)
  where
    byte : (n < nodes) × (l < labels) → get_or held' (place labels n l) 0 ≡ cond (get_or marks n false) 0 (get_or held (place labels n l) 0)
    byte at = forgot (place labels n l) (place_below nodes labels n l at.0 at.1) ∙ rw (div-mul-add n labels l at.1) refl

-- the byte of a pair that is there
pub shown_byte : (nodes labels : ℕ) (bytes : List ℕ) (n l : ℕ) → n < nodes → l < labels → byte_typing nodes labels bytes n l ≡ eqb (get_or bytes (place labels n l) 0) 1
shown_byte nodes labels bytes n l h k = rw (lt-ltb n nodes h, lt-ltb l labels k) refl

-- a table of 8,192 bytes has a place for each pair of 256 nodes and 32 labels
pub place_in_table : (nodes labels n l : ℕ) → nodes ≤ 256 → labels ≤ 32 → n < nodes → l < labels → place labels n l < 8192
place_in_table nodes labels n l few less h k = omega (arith, mul-add-lt n labels l nodes h k, mul-le nodes labels 256 32 few less)

-- a place, worked out from numbers that are the node, the labels and the label
pub spot : (m n k labels j l : ℕ) → m ≡ n → k ≡ labels → j ≡ l → m * k + j ≡ place labels n l
spot m n k labels j l e f g = ap (λ x. x * k + j) e ∙ ap (λ x. n * x + j) f ∙ ap (λ x. n * labels + x) g

-- how many pairs there are, worked out from numbers that are the nodes and the labels
pub cells : (m n k labels : ℕ) → m ≡ n → k ≡ labels → m * k ≡ n * labels
cells m n k labels e f = ap (λ x. x * k) e ∙ ap (λ x. n * x) f

-- a table of zeros shows no pair
pub none_shown : (nodes labels size n l : ℕ) → byte_typing nodes labels (replicate size 0) n l ≡ false
none_shown nodes labels size n l = ap (λ b. (ltb n nodes && ltb l labels) && eqb b 1) (zero_byte size (place labels n l)) ∙ and_no (ltb n nodes && ltb l labels)
  where
    zero_byte : (m i : ℕ) → ◌≡◌ {A = ℕ} (get_or (replicate m 0) i 0) 0
    zero_byte zero i = refl
    zero_byte (suc m) zero = refl
    zero_byte (suc m) (suc i) = zero_byte m i

    and_no : (b : Bool) → (b && false) ≡ false
    and_no true = refl
    and_no false = refl
