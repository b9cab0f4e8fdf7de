-- What a triple store means, and what its calls do. Assumes nothing.
--     Lists                  for each node the list of its arcs
--     present arcs s p o     the triple (s, p, o) is in the store
--     total n arcs           how many arcs the nodes below n have in all
--     Lawful                 what holds of every store
--     node_refusal           how a triple is refused that leads from or to no node
--     put_refusal            how a put refuses, if it does; take_refusal, how a take does
--     Added, Removed         the triples after an accepted put, and after an accepted take
use Rattle.std.specs.Prelude.{◌≡◌, ℕ, zero, suc, ◌+◌, ◌≤◌, Bool, true, not, ◌&&◌, ◌||◌, List, [], ◌∷◌, length, Option, ◌==◌, nat_le}
use Rattle.refusal.specs.declared.Layer.TheVariants.{Store}
use Rattle.refusal.specs.Refusals.{Refusal, first}
use Rattle.triple.specs.Arcs.{Arc, same, has, distinct, inside}

abbrev pub Lists : Type 0
Lists = ℕ → List Arc

abbrev pub present : Lists → (s p o : ℕ) → Bool
present arcs s p o = has p o (arcs s)

abbrev pub total : ℕ → Lists → ℕ
total zero arcs = 0
total (suc n) arcs = total n arcs + length (arcs n)

-- at most 256 nodes, at most 12 arcs a node, none twice, none at a node past the end, each to a node of the store
pub record Lawful (nodes capacity : ℕ) (arcs : Lists) : Type 0 where
  pub small : nodes ≤ 256
  pub few : (n : ℕ) → length (arcs n) ≤ 12
  pub apart : (n : ℕ) → distinct (arcs n) ≡ true
  pub within : (n : ℕ) → inside nodes (arcs n) ≡ true
  pub past : (n : ℕ) → nodes ≤ n → arcs n ≡ []
  pub room : total nodes arcs ≤ capacity

abbrev pub node_refusal : (nodes s o : ℕ) → Option Refusal
node_refusal nodes s o = first ((nat_le nodes s, (Store, 7)) ∷ (nat_le nodes o, (Store, 8)) ∷ [])

abbrev pub put_refusal : (nodes capacity : ℕ) → Lists → (s p o : ℕ) → Option Refusal
put_refusal nodes capacity arcs s p o =
    first ((nat_le nodes s, (Store, 7))
    ∷ (nat_le nodes o, (Store, 8))
    ∷ (present arcs s p o, (Store, 10))
    ∷ ((length (arcs s) == 12), (Store, 11))
    ∷ ((total nodes arcs == capacity), (Store, 12))
    ∷ [])

abbrev pub take_refusal : (nodes : ℕ) → Lists → (s p o : ℕ) → Option Refusal
take_refusal nodes arcs s p o =
    first ((nat_le nodes s, (Store, 7))
    ∷ (nat_le nodes o, (Store, 8))
    ∷ (not (present arcs s p o), (Store, 13))
    ∷ [])

-- (n, a, b) is the triple (s, p, o)
abbrev pub is : (n a b s p o : ℕ) → Bool
is n a b s p o = n == s && same (p, o) a b

abbrev pub Added : Lists → (s p o : ℕ) → Lists → Type 0
Added before s p o after =
    (n a b : ℕ) → present after n a b ≡ (is n a b s p o || present before n a b)

abbrev pub Removed : Lists → (s p o : ℕ) → Lists → Type 0
Removed before s p o after =
    (n a b : ℕ) → present after n a b ≡ (not (is n a b s p o) && present before n a b)
