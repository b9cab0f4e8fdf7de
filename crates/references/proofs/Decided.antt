-- The tests of what stands in an expression decide it. Assumes nothing.
use Rattle.std.proofs.Common.{◌≡◌, ℕ, ◌<◌, Bool, true, false, ◌&&◌, ltb, Decides, sym, ◌∙◌}
use Rattle.std.proofs.lemmas.Bool.{and_parts, and_from, ltb-true, lt-ltb, false≢true}
use Rattle.std.proofs.lemmas.Bool.Decides.{Decides-eqb, Decides-or}
use Rattle.shapes.specs.Expr.{Triple, empty, arc, each, some, times, Shape, value, hood, and, or, not}
use Rattle.shapes.specs.References.{HasArc, Mentions, Negates}
use Rattle.labels.specs.Mentions.{has_arc}
use Rattle.references.specs.Mentions.{mentions, negates}

never : Decides false ⊥
never = (λ e. absurd (false≢true e), λ z. absurd z)

pub decides_arc : (e : Triple) (k : ℕ) → Decides (has_arc (λ s. true) e k) (HasArc e k)
decides_arc empty k = never
decides_arc (arc s l) k = Decides-eqb l k
decides_arc (each x y) k = Decides-or _ _ (decides_arc x k) (decides_arc y k)
decides_arc (some x y) k = Decides-or _ _ (decides_arc x k) (decides_arc y k)
decides_arc (times x least most) k = decides_arc x k

pub decides_mentions : (e : Shape) (k : ℕ) → Decides (mentions e k) (Mentions e k)
decides_mentions (value t) k = never
decides_mentions (hood e) k = decides_arc e k
decides_mentions (and a b) k = Decides-or _ _ (decides_mentions a k) (decides_mentions b k)
decides_mentions (or a b) k = Decides-or _ _ (decides_mentions a k) (decides_mentions b k)
decides_mentions (not a) k = decides_mentions a k

pub decides_negates : (e : Shape) (k : ℕ) → Decides (negates e k) (Negates e k)
decides_negates (value t) k = never
decides_negates (hood e) k = never
decides_negates (and a b) k = Decides-or _ _ (decides_negates a k) (decides_negates b k)
decides_negates (or a b) k = Decides-or _ _ (decides_negates a k) (decides_negates b k)
decides_negates (not a) k = decides_mentions a k

-- a test that counts below a limit only, and is known there
pub decides_below : (b x y : Bool) (l n : ℕ) (Q : Type 0) → b ≡ (ltb l n && x) → (l < n → x ≡ y) → Decides y Q → Decides b ((l < n) × Q)
decides_below b x y l n Q e f d = (
  λ t. let p = and_parts (ltb l n) x (sym e ∙ t) in
      let h = ltb-true l n p.0 in (h, d.0 (sym (f h) ∙ p.1)),
  λ q. e ∙ and_from (ltb l n) x (lt-ltb l n q.0) (f q.0 ∙ d.1 q.1),
)
