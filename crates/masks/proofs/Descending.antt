-- One step of the iterator over the parts of a mask.
use Rattle.std.proofs.Common.{◌≡◌, ℕ, zero, suc, ◌+◌, ◌-◌, Some, sym, ap, ◌∙◌, subst, arith, None}
use Rattle.std.specs.Prelude.{MatchOption}
use lib.Bits.{bit_and}
use Rattle.masks.specs.Submasks.{after, below, Gives}
use Rattle.masks.specs.declared.submasks.Submasks.{Submasks}
use Rattle.masks.proofs.Apart.{Part, part_whole, part_more}

-- what the iterator has left of u: the part that comes next and those below it
abbrev pub Left : ℕ → Submasks → Type 0
Left u s = (s.whole ≡ u) × MatchOption s.next (Unit {0}) (Part u)

pub left_whole : (u : ℕ) (s : Submasks) → s.whole ≡ u → s.next ≡ Some u → Left u s
left_whole u s e f = (e, subst (λ o. MatchOption o (Unit {0}) (Part u)) (sym f) (part_whole u))

module _ (u d : ℕ) (s t : Submasks) (left : Left u s) (g : Gives s (Some d) t) where
  pub part_here : Part u d
  part_here = subst (λ o. MatchOption o (Unit {0}) (Part u)) (sym g.0) left.1

  pub after_here : after s.next ≡ d + 1
  after_here = ap after (sym g.0)

  turned : t.next ≡ below u (Some d)
  turned = g.2 ∙ ap (below s.whole) (sym g.0) ∙ ap (λ w. below w (Some d)) left.0

  pub left_more : Left u t
  left_more = (g.1 ∙ left.0, subst (λ o. MatchOption o (Unit {0}) (Part u)) (sym turned) (go d part_here))
    where
      go : (d : ℕ) → Part u d → MatchOption (below u (Some d)) (Unit {0}) (Part u)
      go zero p = tt
      go (suc d) p =
          let e : suc d - 1 ≡ d = omega arith in
          subst (λ k. Part u (bit_and k u)) e (part_more u (suc d) p (λ z. omega (arith, z)))

  -- what holds down to d, and then below it, holds down to what is left
  pub down : (R : ℕ → Type 0) → R d → ((d ≡ 0 → ⊥) → R (bit_and (d - 1) u + 1)) → R (after t.next)
  down R here more = subst (λ o. R (after o)) (sym turned) (go d here more)
    where
      go : (d : ℕ) → R d → ((d ≡ 0 → ⊥) → R (bit_and (d - 1) u + 1)) → R (after (below u (Some d)))
      go zero r m = r
      go (suc d) r m =
          let e : suc d - 1 ≡ d = omega arith in
          subst (λ k. R (bit_and k u + 1)) e (m (λ z. omega (arith, z)))

-- the iterator that has given its last part
pub none_left : (s t : Submasks) → Gives s None t → after s.next ≡ 0
none_left s t g = ap after (sym g.0)
