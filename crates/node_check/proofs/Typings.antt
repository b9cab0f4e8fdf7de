-- The typing in a table, read with and without the bound on nodes; arcs by a test and by membership. Assumes nothing.
use Rattle.std.proofs.Common.{◌≡◌, ℕ, ◌<◌, true, ◌==◌, ◌↔◌, List, [], ◌∷◌, sym, refl, ◌∙◌, subst, inl, inr}
use Rattle.std.specs.List.{list_any}
use Rattle.std.proofs.lemmas.Bool.{false≢true, and_parts, or_cases, or_left, or_right, eq-eqb, eqb-true, lt-ltb, ltb-true}
use Rattle.triple.specs.Arcs.{inside}
use Rattle.shapes.specs.Bytes.{byte_typing}
use Rattle.shapes.specs.Expr.{Schema}
use Rattle.shapes.specs.Lists.{Member, first, later}
use Rattle.shapes.specs.Typing.{Graph, In, Satisfied}
use Rattle.shapes.proofs.Satisfaction.{satisfies_local}
use Rattle.hoods.specs.Typings.{typed}

-- an arc of a list leads to a node
pub inside_member : (nodes : ℕ) (arcs : List (ℕ × ℕ)) (p o : ℕ) → inside nodes arcs ≡ true → Member (p, o) arcs → o < nodes
inside_member nodes [] p o h m = elim m [ ]
inside_member nodes (a ∷ arcs) p o h first = ltb-true o nodes (and_parts _ _ (and_parts _ _ h).0).1
inside_member nodes (a ∷ arcs) p o h (later m) = inside_member nodes arcs p o (and_parts _ _ h).1 m

bounded : (nodes labels : ℕ) (table : List ℕ) (o k : ℕ) → o < nodes → typed labels table o k ≡ byte_typing nodes labels table o k
bounded nodes labels table o k h = rw (lt-ltb o nodes h) refl

-- a node whose arcs lead to nodes satisfies a definition under the one exactly if under the other
pub satisfied_bounded : (S : Schema) (G : Graph) (table : List ℕ) (n l : ℕ) → inside G.nodes (G.arcs n) ≡ true
    → Satisfied S G (In (typed S.labels table)) n l ↔ Satisfied S G (In (byte_typing G.nodes S.labels table)) n l
satisfied_bounded S G table n l h =
    let T = In (typed S.labels table) in
    let B = In (byte_typing G.nodes S.labels table) in
    let there : (p o : ℕ) → Member (p, o) (G.arcs n) → (k : ℕ) → T o k → B o k = λ p o m k t. sym (bounded G.nodes S.labels table o k (inside_member G.nodes (G.arcs n) p o h m)) ∙ t in
    let back : (p o : ℕ) → Member (p, o) (G.arcs n) → (k : ℕ) → B o k → T o k = λ p o m k t. bounded G.nodes S.labels table o k (inside_member G.nodes (G.arcs n) p o h m) ∙ t in (
      satisfies_local S.sets T B (G.passes n) (G.arcs n) (S.definition l) (λ p o m k a. there p o m k) (λ p o m k a b. back p o m k),
      satisfies_local S.sets B T (G.passes n) (G.arcs n) (S.definition l) (λ p o m k a. back p o m k) (λ p o m k a b. there p o m k),
    )

-- the test that finds an arc to the object o
module _ (o : ℕ) where
  pub member_object : (zs : List (ℕ × ℕ)) → list_any (λ a. a.1 == o) zs ≡ true → (p : ℕ) × Member (p, o) zs
  member_object [] e = absurd (false≢true e)
  member_object (z ∷ zs) e =
      elim (or_cases (z.1 == o) (list_any (λ a. a.1 == o) zs) e) [
        | inl h ↦ (z.0, subst (λ k. Member (z.0, k) (z ∷ zs)) (eqb-true z.1 o h) first)
        | inr h ↦ (let m = member_object zs h in (m.0, later m.1))
      ]

  pub object_member : (p : ℕ) {zs : List (ℕ × ℕ)} → Member (p, o) zs → list_any (λ a. a.1 == o) zs ≡ true
  object_member p (first {zs = zs}) = or_left _ _ (eq-eqb o o refl)
  object_member p (later {b = z} m) = or_right (z.1 == o) _ (object_member p m)
