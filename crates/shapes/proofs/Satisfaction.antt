-- Satisfaction grows with the typing, rests on the pairs leaned on alone, and not on the order of the arcs.
use Rattle.std.proofs.Common.{◌≡◌, ℕ, zero, suc, Bool, sym, refl, ◌∙◌, subst, inl, inr}
use Rattle.shapes.specs.Expr.{Triple, empty, arc, each, some, times, Shape, value, hood, and, or, not, Schema}
use Rattle.shapes.specs.References.{HasArc, Mentions, Negates}
use Rattle.shapes.specs.Lists.{Member, first, Parts, Permuted}
use Rattle.shapes.specs.Meaning.{Arcs, Relation, Met, Satisfies}
use Rattle.shapes.specs.Typing.{Graph, Satisfied}
use Rattle.shapes.specs.Leaning.{Takes, Admits, Agree}
use Rattle.shapes.proofs.Lists.{split_left_member, split_right_member, permuted_nil, permuted_one, permuted_sym, split_permuted, parts_permuted}

pub mentions_from_negates : (s : Shape) (k : ℕ) → Negates s k → Mentions s k
mentions_from_negates (value t) k h = h
mentions_from_negates (hood e) k h = absurd h
mentions_from_negates (and a b) k (inl h) = inl (mentions_from_negates a k h)
mentions_from_negates (and a b) k (inr h) = inr (mentions_from_negates b k h)
mentions_from_negates (or a b) k (inl h) = inl (mentions_from_negates a k h)
mentions_from_negates (or a b) k (inr h) = inr (mentions_from_negates b k h)
mentions_from_negates (not a) k h = h

parts_local : (Q R : Arcs → Type 0) (X : ℕ → ℕ → Type 0)
    → ((zs : Arcs) → ((p o : ℕ) → Member (p, o) zs → X p o) → Q zs → R zs)
    → (k : ℕ) (zs : Arcs) → ((p o : ℕ) → Member (p, o) zs → X p o) → Parts Q k zs → Parts R k zs
parts_local Q R X g zero zs f e = e
parts_local Q R X g (suc k) zs f (xs, ys, s, q, r) =
    (xs, ys, s, g xs (λ p o m. f p o (split_left_member s m)) q, parts_local Q R X g k ys (λ p o m. f p o (split_right_member s m)) r)

module _ (sets : ℕ → ℕ → Bool) where
  has_arc_from_takes : (e : Triple) (p k : ℕ) → Takes sets e p k → HasArc e k
  has_arc_from_takes empty p k h = h
  has_arc_from_takes (arc s l) p k h = h.0
  has_arc_from_takes (each x y) p k (inl h) = inl (has_arc_from_takes x p k h)
  has_arc_from_takes (each x y) p k (inr h) = inr (has_arc_from_takes y p k h)
  has_arc_from_takes (some x y) p k (inl h) = inl (has_arc_from_takes x p k h)
  has_arc_from_takes (some x y) p k (inr h) = inr (has_arc_from_takes y p k h)
  has_arc_from_takes (times x a b) p k h = has_arc_from_takes x p k h

  pub mentions_from_admits : (s : Shape) (p k : ℕ) → Admits sets s p k → Mentions s k
  mentions_from_admits (value t) p k h = h
  mentions_from_admits (hood e) p k h = has_arc_from_takes e p k h
  mentions_from_admits (and a b) p k (inl h) = inl (mentions_from_admits a p k h)
  mentions_from_admits (and a b) p k (inr h) = inr (mentions_from_admits b p k h)
  mentions_from_admits (or a b) p k (inl h) = inl (mentions_from_admits a p k h)
  mentions_from_admits (or a b) p k (inr h) = inr (mentions_from_admits b p k h)
  mentions_from_admits (not a) p k h = mentions_from_admits a p k h

  module _ (P R : Relation) where
    pub met_local : (e : Triple) (zs : Arcs) → ((p o : ℕ) → Member (p, o) zs → (k : ℕ) → Takes sets e p k → P o k → R o k) → Met sets P e zs → Met sets R e zs
    met_local empty zs f h = h
    met_local (arc s l) zs f (p, o, e, m, h) = (p, o, e, m, f p o (subst (Member (p, o)) (sym e) first) l (refl, m) h)
    met_local (each x y) zs f (xs, ys, s, h, g) =
        (xs, ys, s, met_local x xs (λ p o m k a. f p o (split_left_member s m) k (inl a)) h, met_local y ys (λ p o m k a. f p o (split_right_member s m) k (inr a)) g)
    met_local (some x y) zs f (inl h) = inl (met_local x zs (λ p o m k a. f p o m k (inl a)) h)
    met_local (some x y) zs f (inr h) = inr (met_local y zs (λ p o m k a. f p o m k (inr a)) h)
    met_local (times x a b) zs f (k, l, u, h) =
        (k, l, u, parts_local (Met sets P x) (Met sets R x) (λ p o. (k : ℕ) → Takes sets x p k → P o k → R o k) (met_local x) k zs f h)

  -- only the objects that an ARC admits count: R has them where P has, and, where the label is negated, P where R has
  pub satisfies_local : (P R : Relation) (passes : ℕ → Bool) (zs : Arcs) (s : Shape)
      → ((p o : ℕ) → Member (p, o) zs → (k : ℕ) → Admits sets s p k → P o k → R o k)
      → ((p o : ℕ) → Member (p, o) zs → (k : ℕ) → Admits sets s p k → Negates s k → R o k → P o k)
      → Satisfies sets P passes zs s → Satisfies sets R passes zs s
  satisfies_local P R passes zs (value t) f g h = h
  satisfies_local P R passes zs (hood e) f g h = met_local P R e zs f h
  satisfies_local P R passes zs (and a b) f g (x, y) = (
    satisfies_local P R passes zs a (λ p o m k r. f p o m k (inl r)) (λ p o m k r q. g p o m k (inl r) (inl q)) x,
    satisfies_local P R passes zs b (λ p o m k r. f p o m k (inr r)) (λ p o m k r q. g p o m k (inr r) (inr q)) y,
  )
  satisfies_local P R passes zs (or a b) f g (inl x) =
      inl (satisfies_local P R passes zs a (λ p o m k r. f p o m k (inl r)) (λ p o m k r q. g p o m k (inl r) (inl q)) x)
  satisfies_local P R passes zs (or a b) f g (inr y) =
      inr (satisfies_local P R passes zs b (λ p o m k r. f p o m k (inr r)) (λ p o m k r q. g p o m k (inr r) (inr q)) y)
  satisfies_local P R passes zs (not a) f g h =
      λ r. h (satisfies_local R P passes zs a (λ p o m k x. g p o m k x (mentions_from_admits a p k x)) (λ p o m k x _. f p o m k x) r)

  module _ (P : Relation) where
    pub met_permuted : (e : Triple) (zs ws : Arcs) → Permuted zs ws → Met sets P e zs → Met sets P e ws
    met_permuted empty zs ws p e = permuted_nil p e
    met_permuted (arc s l) zs ws p (q, o, e, m, h) = (q, o, permuted_one (q, o) p e, m, h)
    met_permuted (each x y) zs ws p (xs, ys, s, a, b) =
        let h = split_permuted p s in
        (h.0, h.1, h.2, met_permuted x xs h.0 h.3 a, met_permuted y ys h.1 h.4 b)
    met_permuted (some x y) zs ws p (inl h) = inl (met_permuted x zs ws p h)
    met_permuted (some x y) zs ws p (inr h) = inr (met_permuted y zs ws p h)
    met_permuted (times x a b) zs ws p (k, l, u, h) = (k, l, u, parts_permuted (Met sets P x) (met_permuted x) k zs ws p h)

    -- neither the order of the arcs counts, nor more of the tests than what they answer
    pub satisfies_permuted : (s : Shape) (f g : ℕ → Bool) (zs ws : Arcs) → ((t : ℕ) → f t ≡ g t) → Permuted zs ws → Satisfies sets P f zs s → Satisfies sets P g ws s
    satisfies_permuted (value t) f g zs ws e p h = sym (e t) ∙ h
    satisfies_permuted (hood x) f g zs ws e p h = met_permuted x zs ws p h
    satisfies_permuted (and a b) f g zs ws e p (x, y) = (satisfies_permuted a f g zs ws e p x, satisfies_permuted b f g zs ws e p y)
    satisfies_permuted (or a b) f g zs ws e p (inl x) = inl (satisfies_permuted a f g zs ws e p x)
    satisfies_permuted (or a b) f g zs ws e p (inr y) = inr (satisfies_permuted b f g zs ws e p y)
    satisfies_permuted (not a) f g zs ws e p h = λ x. h (satisfies_permuted a g f ws zs (λ t. sym (e t)) (permuted_sym p) x)

module _ (S : Schema) where
  pub satisfied_agree : (G H : Graph) (P : Relation) (n l : ℕ) → Agree G H n → Satisfied S G P n l → Satisfied S H P n l
  satisfied_agree G H P n l a = satisfies_permuted S.sets P (S.definition l) (G.passes n) (H.passes n) (G.arcs n) (H.arcs n) a.0 a.1

  -- a node keeps a satisfied definition when its labels grow, and its negated labels do not
  pub satisfied_monotone : (G : Graph) (P R : Relation) (n l : ℕ)
      → ((o k : ℕ) → Mentions (S.definition l) k → P o k → R o k) → ((o k : ℕ) → Negates (S.definition l) k → R o k → P o k)
      → Satisfied S G P n l → Satisfied S G R n l
  satisfied_monotone G P R n l f g =
      satisfies_local S.sets P R (G.passes n) (G.arcs n) (S.definition l)
      (λ p o m k a. f o k (mentions_from_admits S.sets (S.definition l) p k a)) (λ p o m k a. g o k)
