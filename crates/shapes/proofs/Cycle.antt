-- A schema can be stratified exactly if no negated reference lies on a cycle: number each label by how many labels it leads to.
use Rattle.std.proofs.Common.{◌≡◌, ℕ, zero, suc, ◌<◌, ◌≤◌, Bool, true, false, cond, ◌&&◌, ◌||◌, eqb, ltb, ◌⊎◌, Decides, refl, subst, inl, inr, arith}
use native.Mathlib.Decide.{dec_lt}
use Rattle.std.proofs.lemmas.Bool.Decides.{Decides-and, Decides-or, Decides-eqb, Decides-ltb}
use Rattle.shapes.specs.Expr.{Triple, empty, arc, each, some, times, Shape, value, hood, and, or, not, Schema}
use Rattle.shapes.specs.References.{HasArc, Mentions, Negates, Refers, Path, here, step, OnCycle, NegatedCycle, Stratification}
use Rattle.shapes.specs.Tables.{total}
use Rattle.shapes.specs.Lawful.{Lawful}
use Rattle.shapes.specs.Claims.{Stratifiable}
use Rattle.shapes.proofs.Satisfaction.{mentions_from_negates}
use Rattle.shapes.proofs.Decide.{false_is_not}
use Rattle.shapes.proofs.Tables.{total_le, total_less, one_le, one_less}

-- tests of references
abbrev pub has_arc : Triple → ℕ → Bool
has_arc empty k = false
has_arc (arc s l) k = eqb l k
has_arc (each x y) k = has_arc x k || has_arc y k
has_arc (some x y) k = has_arc x k || has_arc y k
has_arc (times x a b) k = has_arc x k

decides_has_arc : (e : Triple) (k : ℕ) → Decides (has_arc e k) (HasArc e k)
decides_has_arc empty k = (false_is_not, λ h. absurd h)
decides_has_arc (arc s l) k = Decides-eqb l k
decides_has_arc (each x y) k = Decides-or (has_arc x k) (has_arc y k) (decides_has_arc x k) (decides_has_arc y k)
decides_has_arc (some x y) k = Decides-or (has_arc x k) (has_arc y k) (decides_has_arc x k) (decides_has_arc y k)
decides_has_arc (times x a b) k = decides_has_arc x k

abbrev pub mentions : Shape → ℕ → Bool
mentions (value t) k = false
mentions (hood e) k = has_arc e k
mentions (and a b) k = mentions a k || mentions b k
mentions (or a b) k = mentions a k || mentions b k
mentions (not a) k = mentions a k

pub decides_mentions : (s : Shape) (k : ℕ) → Decides (mentions s k) (Mentions s k)
decides_mentions (value t) k = (false_is_not, λ h. absurd h)
decides_mentions (hood e) k = decides_has_arc e k
decides_mentions (and a b) k = Decides-or (mentions a k) (mentions b k) (decides_mentions a k) (decides_mentions b k)
decides_mentions (or a b) k = Decides-or (mentions a k) (mentions b k) (decides_mentions a k) (decides_mentions b k)
decides_mentions (not a) k = decides_mentions a k

abbrev pub negates : Shape → ℕ → Bool
negates (value t) k = false
negates (hood e) k = false
negates (and a b) k = negates a k || negates b k
negates (or a b) k = negates a k || negates b k
negates (not a) k = mentions a k

pub decides_negates : (s : Shape) (k : ℕ) → Decides (negates s k) (Negates s k)
decides_negates (value t) k = (false_is_not, λ h. absurd h)
decides_negates (hood e) k = (false_is_not, λ h. absurd h)
decides_negates (and a b) k = Decides-or (negates a k) (negates b k) (decides_negates a k) (decides_negates b k)
decides_negates (or a b) k = Decides-or (negates a k) (negates b k) (decides_negates a k) (decides_negates b k)
decides_negates (not a) k = decides_mentions a k

module _ (S : Schema) where
  pub path_join : {l j k : ℕ} → Path S l j → Path S j k → Path S l k
  path_join here q = q
  path_join (step r p) q = step r (path_join p q)

  -- a path between whose ends stand labels below m alone
  Through : ℕ → ℕ → ℕ → Type 0
  Through zero l k = (l ≡ k) ⊎ Refers S l k
  Through (suc m) l k = Through m l k ⊎ (Through m l m × Through m m k)

  abbrev through : ℕ → ℕ → ℕ → Bool
  through zero l k = eqb l k || (ltb l S.labels && mentions (S.definition l) k)
  through (suc m) l k = through m l k || (through m l m && through m m k)

  decides_through : (m l k : ℕ) → Decides (through m l k) (Through m l k)
  unfolding Through
  decides_through zero l k =
      Decides-or (eqb l k) (ltb l S.labels && mentions (S.definition l) k) (Decides-eqb l k)
      (Decides-and (ltb l S.labels) (mentions (S.definition l) k) (Decides-ltb l S.labels) (decides_mentions (S.definition l) k))
  decides_through (suc m) l k =
      Decides-or (through m l k) (through m l m && through m m k) (decides_through m l k)
      (Decides-and (through m l m) (through m m k) (decides_through m l m) (decides_through m m k))

  path_from_through : (m l k : ℕ) → Through m l k → Path S l k
  unfolding Through
  path_from_through zero l k (inl e) = subst (Path S l) e here
  path_from_through zero l k (inr r) = step r here
  path_from_through (suc m) l k (inl t) = path_from_through m l k t
  path_from_through (suc m) l k (inr t) = path_join (path_from_through m l m t.0) (path_from_through m m k t.1)

  through_more : (m l k : ℕ) → (l ≡ k) ⊎ Refers S l k → Through m l k
  unfolding Through
  through_more zero l k t = t
  through_more (suc m) l k t = inl (through_more m l k t)

  through_to : (m l : ℕ) → Through (suc m) l m → Through m l m
  unfolding Through
  through_to m l (inl t) = t
  through_to m l (inr t) = t.0

  through_from : (m k : ℕ) → Through (suc m) m k → Through m m k
  unfolding Through
  through_from m k (inl t) = t
  through_from m k (inr t) = t.1

  through_join : (m l j k : ℕ) → j < m → Through m l j → Through m j k → Through m l k
  unfolding Through
  through_join zero l j k h v w = absurd (omega arith)
  through_join (suc m) l j k h v w = pick (dec_lt j m) (through_join m) v w
    where
      pick : Dec (j < m) → ((l j k : ℕ) → j < m → Through m l j → Through m j k → Through m l k) → Through (suc m) l j → Through (suc m) j k → Through (suc m) l k
      pick (no g) ih v w =
          let e : j ≡ m = omega arith in
          inr (through_to m l (subst (Through (suc m) l) e v), through_from m k (subst (λ x. Through (suc m) x k) e w))
      pick (yes g) ih (inl v) (inl w) = inl (ih l j k g v w)
      pick (yes g) ih (inl v) (inr w) = inr (ih l j m g v w.0, w.1)
      pick (yes g) ih (inr v) (inl w) = inr (v.0, ih m j k g v.1 w)
      pick (yes g) ih (inr v) (inr w) = inr (v.0, w.1)

  -- whether references lead from l to k
  abbrev pub leads : ℕ → ℕ → Bool
  leads l k = through S.labels l k

  abbrev pub on_cycle : ℕ → ℕ → Bool
  on_cycle l k = (ltb l S.labels && negates (S.definition l) k) && leads k l

  module _ (ok : Lawful S) where
    through_from_path : {l k : ℕ} → Path S l k → Through S.labels l k
    through_from_path here = through_more S.labels _ _ (inl refl)
    through_from_path (step {l = l} {j = j} {k = k} r p) = through_join S.labels l j k (ok.known l j r) (through_more S.labels l j (inr r)) (through_from_path p)

    pub decides_path : (l k : ℕ) → Decides (leads l k) (Path S l k)
    decides_path l k =
        let d = decides_through S.labels l k in
        (λ e. path_from_through S.labels l k (d.0 e), λ p. d.1 (through_from_path p))

    pub decides_on_cycle : (l k : ℕ) → Decides (on_cycle l k) (OnCycle S l k)
    decides_on_cycle l k =
        Decides-and (ltb l S.labels && negates (S.definition l) k) (leads k l)
        (Decides-and (ltb l S.labels) (negates (S.definition l) k) (Decides-ltb l S.labels) (decides_negates (S.definition l) k)) (decides_path k l)

    -- how many labels l leads to, itself included
    abbrev pub rank : ℕ → ℕ
    rank l = total (λ k. cond (leads l k) 1 0) S.labels

    rank_most : (l m : ℕ) → total (λ k. cond (leads l k) 1 0) m ≤ m
    rank_most l zero = omega arith
    rank_most l (suc m) = omega (arith, rank_most l m, one_le (leads l m) true (λ h. refl))

    wider : (l k : ℕ) → Refers S l k → (j : ℕ) → cond (leads k j) 1 0 ≤ cond (leads l j) 1 0
    wider l k r j = one_le (leads k j) (leads l j) (λ e. (decides_path l j).1 (step r ((decides_path k j).0 e)))

    pub rank_stratifies : ¬ NegatedCycle S → Stratification S rank
    rank_stratifies free =
        record {
          from_one = λ l h. omega (arith, total_less (λ k. 0) (λ k. cond (leads l k) 1 0) S.labels (λ k. omega arith) l h (one_less false (leads l l) (λ e. false_is_not e) (self l)));
          to_most = λ l h. omega (arith, rank_most l S.labels, ok.few);
          refers = λ l k r. total_le (λ j. cond (leads k j) 1 0) (λ j. cond (leads l j) 1 0) S.labels (wider l k r);
          negated = λ l k g.
              total_less (λ j. cond (leads k j) 1 0) (λ j. cond (leads l j) 1 0) S.labels (wider l k (g.0, mentions_from_negates (S.definition l) k g.1)) l g.0
              (one_less (leads k l) (leads l l) (λ e. free (l, k, (g, (decides_path k l).0 e))) (self l));
        }
      where
        self : (l : ℕ) → leads l l ≡ true
        self l = (decides_path l l).1 here

  path_falls : (σ : ℕ → ℕ) → Stratification S σ → {l k : ℕ} → Path S l k → σ k ≤ σ l
  path_falls σ st here = omega arith
  path_falls σ st (step {l = l} {j = j} r p) = omega (arith, st.refers l j r, path_falls σ st p)

  pub no_cycle : (σ : ℕ → ℕ) → Stratification S σ → ¬ NegatedCycle S
  no_cycle σ st (l, k, (g, p)) = omega (arith, st.negated l k g, path_falls σ st p)

pub stratifiable : Stratifiable
stratifiable S ok = (λ s. no_cycle S s.0 s.1, λ free. (rank S ok, rank_stratifies S ok free))
