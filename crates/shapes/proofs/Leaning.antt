-- Sets of pairs closed under leaning: what is reached, what an edit leaves, and a test of what an ARC admits.
use Rattle.std.proofs.Common.{◌≡◌, ℕ, ◌<◌, Bool, false, ◌&&◌, ◌||◌, eqb, ◌⊎◌, ◌↔◌, Decides, sym, subst, inl, inr}
use native.Mathlib.Decide.{ℕ_discrete}
use Rattle.std.proofs.lemmas.Bool.Decides.{Decides-and, Decides-or, Decides-eqb}
use Rattle.shapes.specs.Expr.{Triple, empty, arc, each, some, times, Shape, value, hood, and, or, not, Schema}
use Rattle.shapes.specs.Lists.{Member}
use Rattle.shapes.specs.Meaning.{Relation}
use Rattle.shapes.specs.Typing.{Graph}
use Rattle.shapes.specs.Leaning.{Takes, Admits, Closed, Reached, asked, next, Reaches, there, along, Agree}
use Rattle.shapes.specs.Lawful.{Lawful}
use Rattle.shapes.proofs.Lists.{permuted_sym, permuted_member}
use Rattle.shapes.proofs.Satisfaction.{mentions_from_admits}
use Rattle.shapes.proofs.Decide.{false_is_not, decides_itself}

pub agree_sym : (G H : Graph) (n : ℕ) → Agree G H n → Agree H G n
agree_sym G H n a = (λ t. sym (a.0 t), permuted_sym a.1)

module _ (S : Schema) (G : Graph) where
  pub reached_closed : (n l : ℕ) → Closed S G (Reached S G n l)
  reached_closed n l o k q j r h = next r h

  -- a closed set that has a pair has all that is reached from it
  pub reached_inside : (C : Relation) → Closed S G C → {n l o k : ℕ} → C n l → Reached S G n l o k → C o k
  reached_inside C closed c asked = c
  reached_inside C closed c (next r h) = closed _ _ _ _ (reached_inside C closed c r) h

  -- pairs of nodes and labels lean on pairs of nodes and labels
  pub bounded_closed : Lawful S → ((n p o : ℕ) → n < G.nodes → Member (p, o) (G.arcs n) → o < G.nodes) → Closed S G (λ n l. (n < G.nodes) × (l < S.labels))
  bounded_closed ok objects n l o k c (p, m, a) = (objects n p o c.0 m, ok.known l k (c.1, mentions_from_admits S.sets (S.definition l) p k a))

  pub closed_either : (C D : Relation) → Closed S G C → Closed S G D → Closed S G (λ n l. C n l ⊎ D n l)
  closed_either C D c d n l o k (inl x) h = inl (c n l o k x h)
  closed_either C D c d n l o k (inr y) h = inr (d n l o k y h)

  -- what is left of a closed set without the nodes that reach s is closed
  pub closed_away : (C : Relation) (s : ℕ) → Closed S G C → Closed S G (λ n l. C n l × (¬ Reaches G s n))
  closed_away C s closed n l o k c h = (closed n l o k c.0 h, λ r. c.1 (along h.1 r))

  -- and closed for every graph that agrees on it
  pub closed_agree : (H : Graph) (C : Relation) → ((n l : ℕ) → C n l → Agree G H n) → Closed S G C → Closed S H C
  closed_agree H C agree closed n l o k c h = closed n l o k c (h.0, permuted_member (permuted_sym (agree n l c).1) h.1, h.2)

-- a change at s changes no way to s
pub reaches_agree : (G H : Graph) (s : ℕ) → ((n : ℕ) → ¬ (n ≡ s) → Agree G H n) → (n : ℕ) → Reaches G s n ↔ Reaches H s n
reaches_agree G H s agree n = (over G H agree, over H G (λ n f. agree_sym G H n (agree n f)))
  where
    over : (G H : Graph) → ((n : ℕ) → ¬ (n ≡ s) → Agree G H n) → {n : ℕ} → Reaches G s n → Reaches H s n
    over G H agree there = there
    over G H agree (along {n = n} {p = p} {o = o} m r) = pick (ℕ_discrete n s) (over G H agree r)
      where
        pick : Dec (n ≡ s) → Reaches H s o → Reaches H s n
        pick (yes e) q = subst (Reaches H s) (sym e) there
        pick (no f) q = along (permuted_member (agree n f).1 m) q

module _ (sets : ℕ → ℕ → Bool) where
  abbrev pub takes : Triple → ℕ → ℕ → Bool
  takes empty p k = false
  takes (arc s l) p k = eqb l k && sets s p
  takes (each x y) p k = takes x p k || takes y p k
  takes (some x y) p k = takes x p k || takes y p k
  takes (times x least most) p k = takes x p k

  pub decides_takes : (e : Triple) (p k : ℕ) → Decides (takes e p k) (Takes sets e p k)
  decides_takes empty p k = (false_is_not, λ h. absurd h)
  decides_takes (arc s l) p k = Decides-and (eqb l k) (sets s p) (Decides-eqb l k) (decides_itself (sets s p))
  decides_takes (each x y) p k = Decides-or (takes x p k) (takes y p k) (decides_takes x p k) (decides_takes y p k)
  decides_takes (some x y) p k = Decides-or (takes x p k) (takes y p k) (decides_takes x p k) (decides_takes y p k)
  decides_takes (times x least most) p k = decides_takes x p k

  abbrev pub admits : Shape → ℕ → ℕ → Bool
  admits (value t) p k = false
  admits (hood e) p k = takes e p k
  admits (and a b) p k = admits a p k || admits b p k
  admits (or a b) p k = admits a p k || admits b p k
  admits (not a) p k = admits a p k

  pub decides_admits : (s : Shape) (p k : ℕ) → Decides (admits s p k) (Admits sets s p k)
  decides_admits (value t) p k = (false_is_not, λ h. absurd h)
  decides_admits (hood e) p k = decides_takes e p k
  decides_admits (and a b) p k = Decides-or (admits a p k) (admits b p k) (decides_admits a p k) (decides_admits b p k)
  decides_admits (or a b) p k = Decides-or (admits a p k) (admits b p k) (decides_admits a p k) (decides_admits b p k)
  decides_admits (not a) p k = decides_admits a p k
