-- The bytes of pairs: what is shown when one is written. Assumes nothing.
use Rattle.std.proofs.Common.{◌≡◌, ℕ, ◌+◌, ◌*◌, ◌<◌, ◌≤◌, cond, not, ◌&&◌, eqb, ltb, ◌⊎◌, List, ◌++◌, length, get_or, take, drop, set, replicate, count_by, Decides, sym, ap, ◌∙◌, ap₂, inl, inr, ⊎_elim, arith, get_or-set_other, get_or-set_same}
use Rattle.std.proofs.Math.ListN.{get_or-append}
use Rattle.std.proofs.Math.Seq.{take-set-lt}
use Rattle.std.proofs.lemmas.Nat.{mul-add-lt, same_from_place}
use Rattle.std.proofs.lemmas.List.{length-take-le, get_or-take, get_or-replicate, length-replicate}
use Rattle.std.proofs.lemmas.List.Sums.{sum_by-set}
use Rattle.std.proofs.lemmas.Bool.{cases_eq, ne_eqb}
use Rattle.std.proofs.lemmas.Bool.Decides.{Decides-and, Decides-ltb, Decides-eqb}
use Rattle.std.proofs.lemmas.Slice.{drop-append-drop}
use Rattle.stack.specs.declared.Goal.{Goal}
use Rattle.shapes.specs.Bytes.{place, byte_typing}
use Rattle.leaning.specs.Search.{unmarked, Marked}

module _ (nodes labels : ℕ) where
  pub shown : (bytes : List ℕ) (g : Goal)
      → Decides (byte_typing nodes labels bytes g.node g.label) (((g.node < nodes) × (g.label < labels)) × (get_or bytes (place labels g.node g.label) 0 ≡ 1))
  shown bytes g =
      Decides-and (ltb g.node nodes && ltb g.label labels) (eqb (get_or bytes (place labels g.node g.label) 0) 1)
      (Decides-and (ltb g.node nodes) (ltb g.label labels) (Decides-ltb g.node nodes) (Decides-ltb g.label labels))
      (Decides-eqb (get_or bytes (place labels g.node g.label) 0) 1)

  -- none is shown where the bytes are 0
  pub shown_none : (bytes : List ℕ) → ((i : ℕ) → i < nodes * labels → get_or bytes i 0 ≡ 0) → (g : Goal) → Marked (byte_typing nodes labels bytes) g → ⊥
  shown_none bytes zero g m =
      let w = (shown bytes g).0 m in
      let e = zero (place labels g.node g.label) (omega (arith, mul-add-lt g.node labels g.label nodes w.0.0 w.0.1)) in
      let f = w.1 in omega arith

  -- the byte of a pair is written
  module _ (bytes : List ℕ) (pair : Goal) (i : ℕ) (at : i ≡ place labels pair.node pair.label) (within : (pair.node < nodes) × (pair.label < labels)) (long : i < length bytes) where
    pub shown_same : Marked (byte_typing nodes labels (set bytes i 1)) pair
    shown_same = (shown (set bytes i 1) pair).1 (within, ap (λ k. get_or (set bytes i 1) k 0) (sym at) ∙ get_or-set_same bytes i 1 0 long)

    pub shown_kept : (g : Goal) → Marked (byte_typing nodes labels bytes) g → Marked (byte_typing nodes labels (set bytes i 1)) g
    shown_kept g m =
        let w = (shown bytes g).0 m in
        (shown (set bytes i 1) g).1 (
          w.0,
          ⊎_elim
              (λ (e : place labels g.node g.label ≡ i). ap (λ k. get_or (set bytes i 1) k 0) e ∙ get_or-set_same bytes i 1 0 long)
              (λ (ne : place labels g.node g.label ≡ i → ⊥). get_or-set_other bytes i (place labels g.node g.label) 1 0 ne ∙ w.1)
              (cases_eq (place labels g.node g.label) i),
        )

    pub shown_more : (g : Goal) → Marked (byte_typing nodes labels (set bytes i 1)) g → Marked (byte_typing nodes labels bytes) g ⊎ (g ≡ pair)
    shown_more g m =
        let w = (shown (set bytes i 1) g).0 m in
        ⊎_elim
        (λ (e : place labels g.node g.label ≡ i).
        let s = same_from_place g.node g.label pair.node pair.label labels w.0.1 within.1 (e ∙ at) in
        inr (ap₂ {C = Goal} (λ x y. record { node = x; label = y }) s.0 s.1))
        (λ (ne : place labels g.node g.label ≡ i → ⊥).
        inl ((shown bytes g).1 (w.0, sym (get_or-set_other bytes i (place labels g.node g.label) 1 0 ne) ∙ w.1)))
        (cases_eq (place labels g.node g.label) i)

-- one byte fewer is not 1
pub one_fewer : (count : ℕ) (bytes : List ℕ) (i : ℕ) → i < count → count ≤ length bytes → (get_or bytes i 0 ≡ 1 → ⊥)
    → unmarked count (set bytes i 1) + 1 ≡ unmarked count bytes
one_fewer count bytes i h long ne =
    let size = length-take-le count bytes long in
    let e = sum_by-set (λ b. cond (not (eqb b 1)) 1 0) (take count bytes) i 1 0 (omega arith) in
    let f : ◌≡◌ {A = ℕ} (cond (not (eqb (get_or (take count bytes) i 0) 1)) 1 0) 1 =
    ap (λ v. cond {A = ℕ} (not (eqb v 1)) 1 0) (get_or-take count bytes i 0 h) ∙ ap (λ b. cond {A = ℕ} (not b) 1 0) (ne_eqb (get_or bytes i 0) 1 ne) in
    let t = ap (λ xs. count_by (λ b. not (eqb b 1)) xs) (take-set-lt count bytes i 1 h) in
    omega (arith, e, f, t)

-- the first bytes are cleared
module _ (n k : ℕ) (ms zs : List ℕ) (same : n ≡ k) (long : k ≤ length ms) (e : zs ≡ replicate (length (take n ms)) 0) where
  size : length zs ≡ n
  size = ap length e ∙ length-replicate (length (take n ms)) 0 ∙ length-take-le n ms (omega arith)

  pub cleared_byte : (i : ℕ) → i < k → get_or (zs ++ drop n ms) i 0 ≡ 0
  cleared_byte i h =
      let l = size in
      let m = length-take-le n ms (omega arith) in
      get_or-append zs (drop n ms) 0 i (omega arith) ∙ ap (λ xs. get_or xs i 0) e ∙ get_or-replicate (length (take n ms)) i 0 0 (omega arith)

  pub cleared_rest : drop k (zs ++ drop n ms) ≡ drop k ms
  cleared_rest = drop-append-drop n ms zs k (omega arith) size
