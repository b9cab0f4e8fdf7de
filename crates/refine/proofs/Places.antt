-- The places of pairs in a table, and what the tests on them say.
use Rattle.std.proofs.Common.{◌≡◌, ℕ, ◌*◌, ◌/◌, ◌%◌, ◌<◌, ◌&&◌, eqb, ltb, ◌⊎◌, List, get_or, Decides, sym, ap, ◌∙◌, subst, arith}
use Rattle.std.proofs.lemmas.Bool.Decides.{Decides-and, Decides-or, Decides-eqb, Decides-ltb}
use Rattle.std.proofs.lemmas.Nat.{mul-add-lt, mod-mul-add, div-mul-add}
use Rattle.shapes.specs.Expr.{Schema}
use Rattle.shapes.specs.Typing.{Graph, Typing, In}
use Rattle.shapes.proofs.Decide.{decides_itself}
use Rattle.shapes.specs.Bytes.{place, byte_typing}
use Rattle.refine.specs.Deciding.{size, stratum, either, is_wanted}
use Rattle.refine.specs.declared.due.Due.{Due}
use Rattle.refine.specs.Due.{is_due}

pub place_below : (N L n l : ℕ) → n < N → l < L → place L n l < N * L
place_below N L n l h g = omega (arith, mul-add-lt n L l N h g)

-- equal places are those of one pair
pub same_label : (L n m l k : ℕ) → l < L → k < L → place L n l ≡ place L m k → l ≡ k
same_label L n m l k h g e = sym (mod-mul-add n L l h) ∙ ap (λ p. p % L) e ∙ mod-mul-add m L k g

pub same_node : (L n m l k : ℕ) → l < L → k < L → place L n l ≡ place L m k → n ≡ m
same_node L n m l k h g e = sym (div-mul-add n L l h) ∙ ap (λ p. p / L) e ∙ div-mul-add m L k g

module _ (N L : ℕ) where
  pub decides_shown : (x : List ℕ) (n l : ℕ) → Decides (byte_typing N L x n l) (((n < N) × (l < L)) × (get_or x (place L n l) 0 ≡ 1))
  decides_shown x n l =
      Decides-and (ltb n N && ltb l L) (eqb (get_or x (place L n l) 0) 1) (Decides-and (ltb n N) (ltb l L) (Decides-ltb n N) (Decides-ltb l L)) (Decides-eqb (get_or x (place L n l) 0) 1)

  -- a pair whose byte is the same is shown by both
  pub shown_same : (x y : List ℕ) (n l : ℕ) → get_or y (place L n l) 0 ≡ get_or x (place L n l) 0 → In (byte_typing N L x) n l → In (byte_typing N L y) n l
  shown_same x y n l e h = ap (λ b. (ltb n N && ltb l L) && eqb b 1) e ∙ h

pub decides_either : (K W : Typing) (n l : ℕ) → Decides (either K W n l) (In K n l ⊎ In W n l)
decides_either K W n l = Decides-or (K n l) (W n l) (decides_itself (K n l)) (decides_itself (W n l))

module _ (S : Schema) (G : Graph) (wanted : List ℕ) where
  pub decides_wanted : (k : ℕ) → Decides (is_wanted S G wanted k) ((k < size S G) × (get_or wanted k 0 ≡ 1))
  decides_wanted k = Decides-and (ltb k (size S G)) (eqb (get_or wanted k 0) 1) (Decides-ltb k (size S G)) (Decides-eqb (get_or wanted k 0) 1)

module _ (S : Schema) (G : Graph) (due : Due) (nodes : due.nodes ≡ G.nodes) (labels : due.labels ≡ S.labels) where
  pub decides_due : (k : ℕ) → Decides (is_due due k) ((k < size S G) × ((get_or due.wanted.now k 0 ≡ 1) × (stratum due.strata.now (k % S.labels) ≡ due.stratum)))
  decides_due k =
      let P : ℕ → ℕ → Type 0 = λ n l. Decides (is_due due k) ((k < n * l) × ((get_or due.wanted.now k 0 ≡ 1) × (stratum due.strata.now (k % l) ≡ due.stratum))) in
      let of = stratum due.strata.now (k % due.labels) in
      subst (λ n. P n S.labels) nodes (subst (λ l. P due.nodes l) labels
      (Decides-and (ltb k (due.nodes * due.labels)) (eqb (get_or due.wanted.now k 0) 1 && eqb of due.stratum) (Decides-ltb k (due.nodes * due.labels))
      (Decides-and (eqb (get_or due.wanted.now k 0) 1) (eqb of due.stratum) (Decides-eqb (get_or due.wanted.now k 0) 1) (Decides-eqb of due.stratum))))
