-- A verdict rests only on the pairs that leaning leads to.
use Rattle.std.proofs.Common.{◌≡◌, ℕ, zero, suc, ◌<◌, ◌≤◌, Bool, true, false, ◌⊎◌, ◌↔◌, Decides, sym, refl, subst, inl, inr, arith}
use native.Mathlib.Decide.{dec_lt}
use Rattle.shapes.specs.Expr.{Schema}
use Rattle.shapes.specs.References.{Stratification}
use Rattle.shapes.specs.Meaning.{Relation}
use Rattle.shapes.specs.Typing.{Graph, Typing, In, Satisfied, UpTo, Maximal}
use Rattle.shapes.specs.Leaning.{Closed, Reached, asked, Reaches, there, along, Agree}
use Rattle.shapes.specs.Claims.{Local, OrderFree, ReachedOnly, EditLocal}
use Rattle.shapes.proofs.Satisfaction.{satisfies_local, satisfied_agree}
use Rattle.shapes.proofs.Decide.{false_is_not}
use Rattle.shapes.proofs.Leaning.{agree_sym, reached_closed, closed_agree}
use Rattle.shapes.proofs.Greatest.{Known, known, keeps, included, up_to_decided}

abbrev pub test : {A : Type 0} → Dec A → Bool
test (yes a) = true
test (no f) = false

pub decides_test : {A : Type 0} (d : Dec A) → Decides (test d) A
decides_test (yes a) = (λ e. a, λ h. refl)
decides_test (no f) = (false_is_not, λ h. absurd (f h))

-- facts on finitely many numbers that each cannot fail cannot fail together
all_below : (m : ℕ) (Q : ℕ → Type 0) → ((k : ℕ) → ¬ ¬ Q k) → ¬ ¬ ((k : ℕ) → k < m → Q k)
all_below zero Q f g = g (λ k h. absurd (omega arith))
all_below (suc m) Q f g = all_below m Q f (λ h. f m (λ q. g (λ k l. pick k l h q (dec_lt k m))))
  where
    pick : (k : ℕ) → k < suc m → ((k : ℕ) → k < m → Q k) → Q m → Dec (k < m) → Q k
    pick k l h q (yes z) = h k z
    pick k l h q (no z) = let e : m ≡ k = omega arith in subst Q e q

module _ (S : Schema) (σ : ℕ → ℕ) (st : Stratification S σ) (C : Relation) where
  module _ (G H : Graph) (size : G.nodes ≡ H.nodes) (closed : Closed S G C) (agree : (n l : ℕ) → C n l → Agree G H n)
      (dec : (n l : ℕ) → n < G.nodes → l < S.labels → Dec (C n l)) where
    half : (i : ℕ) → ((n l : ℕ) → C n l → UpTo S G σ i n l ↔ UpTo S H σ i n l) → (n l : ℕ) → C n l → UpTo S G σ (suc i) n l → UpTo S H σ (suc i) n l
    half i ih n l c h =
        included S H σ st i x (λ n k y. bounds n k ((is n k).0 y).0) (λ n k y z. low n k z ((is n k).0 y)) (λ n k y. meets n k ((is n k).0 y)) n l ((is n l).1 (h, c))
      where
        g : Known S G σ (suc i)
        g = known S G σ st (suc i)

        -- the pairs of the typing of G that are in C
        dec_here : (n k : ℕ) → Dec (UpTo S G σ (suc i) n k) → Dec (UpTo S G σ (suc i) n k × C n k)
        dec_here n k (no f) = no (λ y. f y.0)
        dec_here n k (yes u) = let w = g.correct.within n k u in elim (dec n k w.0 w.1) [ yes c ↦ yes (u, c) | no f ↦ no (λ y. f y.1) ]

        x : Typing
        x n k = test (dec_here n k (up_to_decided S G σ st (suc i) n k))

        is : (n k : ℕ) → Decides (x n k) (UpTo S G σ (suc i) n k × C n k)
        is n k = decides_test (dec_here n k (up_to_decided S G σ st (suc i) n k))

        bounds : (n k : ℕ) → UpTo S G σ (suc i) n k → (n < H.nodes) × (k < S.labels) × (σ k ≤ suc i)
        bounds n k u = let w = g.correct.within n k u in (omega (arith, size, w.0), w.1, g.up_to n k u)

        low : (n k : ℕ) → σ k < suc i → UpTo S G σ (suc i) n k × C n k → UpTo S H σ i n k
        low n k z y = (ih n k y.1).0 ((keeps S G σ st i n k z).0 y.0)

        back : (o j : ℕ) → C o j → σ j < suc i → UpTo S H σ (suc i) o j ⊎ In x o j → UpTo S G σ (suc i) o j
        back o j c z (inl u) = (keeps S G σ st i o j z).1 ((ih o j c).1 ((keeps S H σ st i o j z).0 u))
        back o j c z (inr y) = ((is o j).0 y).0

        meets : (n k : ℕ) → UpTo S G σ (suc i) n k × C n k → Satisfied S H (λ o j. UpTo S H σ (suc i) o j ⊎ In x o j) n k
        meets n k (u, c) =
            satisfied_agree S G H (λ o j. UpTo S H σ (suc i) o j ⊎ In x o j) n k (agree n k c)
            (satisfies_local S.sets (UpTo S G σ (suc i)) (λ o j. UpTo S H σ (suc i) o j ⊎ In x o j) (G.passes n) (G.arcs n) (S.definition k)
            (λ p o m j a v. inr ((is o j).1 (v, closed n k o j c (p, m, a))))
            (λ p o m j a b. back o j (closed n k o j c (p, m, a)) (omega (arith, st.negated k j ((g.correct.within n k u).1, b), g.up_to n k u)))
            (g.correct.satisfied n k u))

  module _ (G H : Graph) (size : G.nodes ≡ H.nodes) (closed : Closed S G C) (agree : (n l : ℕ) → C n l → Agree G H n) where
    -- where membership in C is decided
    both : ((n l : ℕ) → n < G.nodes → l < S.labels → Dec (C n l)) → (i n l : ℕ) → C n l → UpTo S G σ i n l ↔ UpTo S H σ i n l
    unfolding UpTo
    both dec zero n l c = (λ h. h, λ h. h)
    both dec (suc i) n l c = (
      half G H size closed agree dec i (both dec i) n l c,
      half H G (sym size) (closed_agree S G H C agree closed) (λ n l c. agree_sym G H n (agree n l c)) (λ n l h. dec n l (omega (arith, size))) i
          (λ n l c. let e = both dec i n l c in (e.1, e.0)) n l c,
    )

    -- C is decided on the finitely many pairs of G, in the sense that this cannot fail; that does, since verdicts are decided
    decided : ¬ ¬ ((n : ℕ) → n < G.nodes → (l : ℕ) → l < S.labels → Dec (C n l))
    decided =
        all_below G.nodes (λ n. (l : ℕ) → l < S.labels → Dec (C n l))
        (λ n. all_below S.labels (λ l. Dec (C n l)) (λ l f. f (no (λ c. f (yes c)))))

    pub same_up_to : (i n l : ℕ) → C n l → UpTo S G σ i n l ↔ UpTo S H σ i n l
    same_up_to i n l c = (λ h. to h (up_to_decided S H σ st i n l), λ h. from h (up_to_decided S G σ st i n l))
      where
        to : UpTo S G σ i n l → Dec (UpTo S H σ i n l) → UpTo S H σ i n l
        to h (yes u) = u
        to h (no f) = absurd (decided (λ d. f ((both (λ n l h g. d n h l g) i n l c).0 h)))

        from : UpTo S H σ i n l → Dec (UpTo S G σ i n l) → UpTo S G σ i n l
        from h (yes u) = u
        from h (no f) = absurd (decided (λ d. f ((both (λ n l h g. d n h l g) i n l c).1 h)))

    pub same_maximal : (n l : ℕ) → C n l → Maximal S G σ n l ↔ Maximal S H σ n l
    unfolding Maximal
    same_maximal = same_up_to 32

pub local : Local
local S σ st G H size C closed agree = same_maximal S σ st (In C) G H size closed agree

pub order_free : OrderFree
order_free S σ st G H size agree n l = same_maximal S σ st (λ n l. Unit {0}) G H size (λ n l o k c h. tt) (λ n l c. agree n) n l tt

pub reached_only : ReachedOnly
reached_only S σ st G H size n l agree = same_maximal S σ st (Reached S G n l) G H size (reached_closed S G n l) agree n l asked

pub edit_local : EditLocal
edit_local S σ st G H size s agree n l f =
    same_maximal S σ st (λ n l. ¬ Reaches G s n) G H size
    (λ n l o k c h r. c (along h.1 r))
    (λ n l c. agree n (λ e. c (subst (Reaches G s) (sym e) there)))
    n l f
