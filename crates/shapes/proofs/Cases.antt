-- The worked cases, by computing their tables.
use Rattle.std.proofs.Common.{◌≡◌, ℕ, zero, suc, ◌<◌, ◌≤◌, Bool, true, false, ◌&&◌, ◌⊎◌, ◌↔◌, List, [], ◌∷◌, refl, subst, inl, inr, arith}
use Rattle.std.specs.List.{AllByRecursion}
use Rattle.std.proofs.lemmas.List.Elements.{All-from_recursion}
use mathlib.Core.Logic.Iff
use Rattle.std.proofs.lemmas.Bool.{and_parts}
use Rattle.std.proofs.lemmas.Bool.Decides.{Decides-below_and}
use Rattle.shapes.specs.Expr.{Shape, value, hood, and, or, not, Schema}
use Rattle.shapes.specs.References.{Negates, OnCycle, here, step, Stratification}
use Rattle.shapes.specs.Lists.{Member, first, later}
use Rattle.shapes.specs.Typing.{Graph, In, Maximal}
use Rattle.shapes.specs.Tables.{Table, shown, count}
use Rattle.shapes.specs.Leaning.{Admits, Reached, asked, next}
use Rattle.shapes.specs.Cases.{Case, typing, look, cycle, Right, rooms, house, all_arcs, house_typing, each_other, itself_twice, cases, Cases}
use Rattle.shapes.proofs.Decide.{false_is_not, decides_itself}
use Rattle.shapes.proofs.Greatest.{solve, known, maximal_settled}
use Rattle.shapes.proofs.Strata.{strata_free}

-- no NOT stands in the expression
abbrev positive : Shape → Bool
positive (value t) = true
positive (hood e) = true
positive (and a b) = positive a && positive b
positive (or a b) = positive a && positive b
positive (not a) = false

negates_none : (s : Shape) (k : ℕ) → positive s ≡ true → ¬ Negates s k
negates_none (value t) k p h = h
negates_none (hood e) k p h = h
negates_none (and a b) k p (inl h) = negates_none a k (and_parts (positive a) (positive b) p).0 h
negates_none (and a b) k p (inr h) = negates_none b k (and_parts (positive a) (positive b) p).1 h
negates_none (or a b) k p (inl h) = negates_none a k (and_parts (positive a) (positive b) p).0 h
negates_none (or a b) k p (inr h) = negates_none b k (and_parts (positive a) (positive b) p).1 h
negates_none (not a) k p h = false_is_not p

-- in no definition of the first m labels
abbrev positive_below : Schema → ℕ → Bool
positive_below S zero = true
positive_below S (suc m) = positive (S.definition m) && positive_below S m

-- then one stratum does
one_stratum : (S : Schema) → positive_below S S.labels ≡ true → Stratification S (λ l. 1)
one_stratum S p =
    record {
      from_one = λ l h. omega arith;
      to_most = λ l h. omega arith;
      refers = λ l k r. omega arith;
      negated = λ l k g. absurd (negates_none (S.definition l) k (all l g.0) g.1);
    }
  where
    all : (l : ℕ) → l < S.labels → positive (S.definition l) ≡ true
    all = (Decides-below_and (λ l. positive (S.definition l)) (λ l. positive (S.definition l) ≡ true) (positive_below S) (λ l. decides_itself (positive (S.definition l))) refl (λ _. refl) S.labels).0 p

-- a table that is computed shows the maximal typing
computed : (S : Schema) (G : Graph) (t : Table) → Stratification S (λ l. 1) → solve S G (λ l. 1) 1 ≡ t
    → (σ : ℕ → ℕ) → Stratification S σ → (n l : ℕ) → In (shown t) n l ↔ Maximal S G σ n l
computed S G t one e σ st n l =
    subst (λ t. In (shown t) n l ↔ Maximal S G σ n l) e
    (Iff.trans ((known S G (λ l. 1) one 1).table n l)
    (Iff.trans (let m = maximal_settled S G (λ l. 1) one 1 n l (omega arith) (omega arith) in (m.1, m.0))
    (strata_free S G (λ l. 1) σ one st n l)))

-- what is left to show of each case
abbrev Checked : Case → Type 0
Checked (typing S G t c) = (positive_below S S.labels ≡ true) × (solve S G (λ l. 1) 1 ≡ t) × (count G.nodes S.labels (shown t) ≡ c)
Checked (look S G at pairs) = Right (look S G at pairs)
Checked (cycle S at) = Right (cycle S at)

all_right : (cs : List Case) → AllByRecursion Checked cs → AllByRecursion Right cs
all_right [] h = tt
all_right (typing S G t c ∷ cs) (h, r) = let one = one_stratum S h.0 in ((one, computed S G t one h.1, h.2), all_right cs r)
all_right (look S G at pairs ∷ cs) (h, r) = (h, all_right cs r)
all_right (cycle S at ∷ cs) (h, r) = (h, all_right cs r)

all_member : {A : Type 0} (P : A → Type 0) {a : A} {zs : List A} → Member a zs → AllByRecursion P zs → P a
all_member P first h = h.0
all_member P (later m) h = all_member P m h.1

-- the first look in the house
module _ (S : Schema) (G : Graph) (n l : ℕ) (pairs : List (ℕ × ℕ)) where
  -- the pairs are reached if each is, and no other is if they are closed under leaning, arc by arc
  reached_right : AllByRecursion (λ x. Reached S G n l x.0 x.1) pairs → Member (n, l) pairs
      → AllByRecursion (λ x. AllByRecursion (λ y. (k : ℕ) → Admits S.sets (S.definition x.1) y.0 k → Member (y.1, k) pairs) (G.arcs x.0)) pairs
      → (o k : ℕ) → Member (o, k) pairs ↔ Reached S G n l o k
  reached_right reached start closed o k = (λ m. all_member (λ x. Reached S G n l x.0 x.1) m reached, within)
    where
      within : {o k : ℕ} → Reached S G n l o k → Member (o, k) pairs
      within asked = start
      within (next r h) =
          all_member (λ y. (k : ℕ) → Admits S.sets (S.definition _) y.0 k → Member (y.1, k) pairs) h.1
          (all_member (λ x. AllByRecursion (λ y. (k : ℕ) → Admits S.sets (S.definition x.1) y.0 k → Member (y.1, k) pairs) (G.arcs x.0)) (within r) closed)
          _ h.2

abbrev three : List (ℕ × ℕ)
three = (0, 0) ∷ (1, 0) ∷ (2, 1) ∷ []

-- from a room, the property 2 leads to readings and the property 1 to rooms
to_reading : (k : ℕ) → Admits rooms.sets (rooms.definition 0) 2 k → Member (2, k) three
to_reading k (inl h) = subst (λ k. Member (2, k) three) h.0 (later (later first))
to_reading k (inr h) = false_is_not h.1

to_room : (o k : ℕ) → Member (o, 0) three → Admits rooms.sets (rooms.definition 0) 1 k → Member (o, k) three
to_room o k m (inl h) = false_is_not h.1
to_room o k m (inr h) = subst (λ k. Member (o, k) three) h.0 m

look_right : Right (look rooms (house 110 all_arcs) (0, 0) three)
look_right = (
  reached_right rooms (house 110 all_arcs) 0 0 three
      (asked, (other, (next asked (2, first, inl (refl, refl)), tt))) first
      ((to_reading, ((λ k. to_room 1 k (later first)), tt)), ((to_reading, ((λ k. to_room 0 k first), tt)), (tt, tt))),
  λ σ st o k m.
      (typed σ st o k).0 (all_member (λ x. shown (house_typing true true) x.0 x.1 ≡ true) m (refl, (refl, (refl, tt)))),
)
  where
    other : Reached rooms (house 110 all_arcs) 0 0 1 0
    other = next asked (1, later first, inr (refl, refl))

    typed : (σ : ℕ → ℕ) → Stratification rooms σ → (n l : ℕ) → In (shown (house_typing true true)) n l ↔ Maximal rooms (house 110 all_arcs) σ n l
    typed = computed rooms (house 110 all_arcs) (house_typing true true) (one_stratum rooms refl) refl

-- the two cycles
each_other_right : Right (cycle each_other (0, 1))
each_other_right = (((omega arith, refl), step (omega arith, refl) here), lowest)
  where
    lowest : (l k : ℕ) → OnCycle each_other l k → (0 < l) ⊎ ((0 ≡ l) × (1 ≤ k))
    lowest zero k h = inr (refl, omega (arith, h.0.1))
    lowest (suc l) k h = inl (omega arith)

itself_twice_right : Right (cycle itself_twice (0, 0))
itself_twice_right = (((omega arith, refl), here), lowest)
  where
    lowest : (l k : ℕ) → OnCycle itself_twice l k → (0 < l) ⊎ ((0 ≡ l) × (0 ≤ k))
    lowest zero k h = inr (refl, omega arith)
    lowest (suc l) k h = inl (omega arith)

pub cases_right : Cases
cases_right =
    All-from_recursion Right cases (all_right cases ((refl, refl, refl), (look_right, ((refl, refl, refl), ((refl, refl, refl), ((refl, refl, refl), ((refl, refl, refl), (each_other_right, (itself_twice_right, ((refl, refl, refl), ((refl, refl, refl), ((refl, refl, refl), ((refl, refl, refl), ((refl, refl, refl), ((refl, refl, refl), tt)))))))))))))))
