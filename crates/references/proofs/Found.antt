-- What the search for a negated reference on a cycle finds. Assumes nothing.
use Rattle.std.proofs.Common.{◌≡◌, ℕ, ◌<◌, ◌≤◌, Bool, true, false, ◌&&◌, Some, None, Decides, Option, sym, ◌∙◌, inl, inr, ⊎_elim, arith, MatchOption}
use Rattle.std.proofs.lemmas.Bool.{and_parts, and_from, both_ways, cases_lt}
use Rattle.shapes.specs.Expr.{Schema, Shape, value, hood, and, or, not}
use Rattle.shapes.specs.References.{Mentions, Negates, Refers, Negated, OnCycle, NegatedCycle}
use Rattle.references.specs.Cycles.{FirstOnCycle, Lowest}
use Rattle.references.specs.Ways.{way}
use Rattle.references.proofs.Paths.{way_path, path_way}

-- a negated reference is a reference
pub negates_mentions : (e : Shape) (k : ℕ) → Negates e k → Mentions e k
negates_mentions (value t) k h = h
negates_mentions (hood e) k h = absurd h
negates_mentions (and a b) k (inl h) = inl (negates_mentions a k h)
negates_mentions (and a b) k (inr h) = inr (negates_mentions b k h)
negates_mentions (or a b) k (inl h) = inl (negates_mentions a k h)
negates_mentions (or a b) k (inr h) = inr (negates_mentions b k h)
negates_mentions (not a) k h = h

-- R are the references of S, N the negated ones, and U is what R reaches
module _ (S : Schema) (R N U : ℕ → ℕ → Bool) (refers : (l k : ℕ) → Decides (R l k) (Refers S l k)) (negated : (l k : ℕ) → Decides (N l k) (Negated S l k))
    (few : S.labels ≤ 32) (known : (l k : ℕ) → Refers S l k → k < S.labels) (reach : (l k : ℕ) → l < 32 → U l k ≡ way R 32 l k) where
  closes_cycle : (l k : ℕ) → k < 32 → (N l k && U k l) ≡ true → OnCycle S l k
  closes_cycle l k h e =
      let p = and_parts _ _ e in
      ((negated l k).0 p.0, way_path S R refers 32 k l (sym (reach k l h) ∙ p.1))

  cycle_closes : (l k : ℕ) → OnCycle S l k → (l < 32) × (k < 32) × ((N l k && U k l) ≡ true)
  cycle_closes l k c =
      let n = c.0 in
      let to : k < S.labels = known l k (n.0, negates_mentions (S.definition l) k n.1) in
      let from : l < S.labels = n.0 in
      let h : k < 32 = omega arith in (
        omega arith,
        h,
        and_from _ _ ((negated l k).1 n)
            (reach k l h ∙ path_way S R refers 32 (λ i j r. let x = known i j r in omega arith) c.1),
      )

  pub cycle_found : (o : Option (ℕ × ℕ))
      → MatchOption o ((l k : ℕ) → l < 32 → k < 32 → (N l k && U k l) ≡ false)
      (λ p. (p.0 < 32) × Lowest (Some p.1) (λ k. N p.0 k && U k p.0) × ((l k : ℕ) → l < p.0 → k < 32 → (N l k && U k l) ≡ false))
      → MatchOption o (NegatedCycle S → ⊥) (λ p. FirstOnCycle S p.0 p.1)
  cycle_found None h =
      λ c. let q = cycle_closes c.0 c.1 c.2 in both_ways _ (h c.0 c.1 q.0 q.1) q.2
  cycle_found (Some p) h =
      record {
        on_cycle = closes_cycle p.0 p.1 h.1.0 h.1.1;
        lowest_from = λ i j c.
            let q = cycle_closes i j c in
            ⊎_elim (λ (b : i < p.0). absurd (both_ways _ (h.2 i j b q.1) q.2)) (λ (b : p.0 ≤ i). b) (cases_lt i p.0);
        lowest_to = λ j c.
            let q = cycle_closes p.0 j c in
            ⊎_elim (λ (b : j < p.1). absurd (both_ways _ (h.1.2 j b) q.2)) (λ (b : p.1 ≤ j). b) (cases_lt j p.1);
      }
