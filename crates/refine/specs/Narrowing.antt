-- One stratum on the way to the maximal typing, in tables. Assumes nothing.
--     Fits .. x        the due pairs are of the schema and the graph, and x has a byte for each
--     Narrowed .. x y  y has no pair more than x, is equal but for the due pairs, and covers the maximal typing where x does
--     Settled .. x     each due pair that x has at a node with no mark is satisfied under x
--     Stable .. x      each due pair that x has is satisfied under x
--     Visited .. n     one node n was checked, its mark taken away, and a byte cleared or not
--     Passed .. m      the marked ones of the first m nodes were checked, and a byte cleared or not
--     Marked L m x y   of the first m nodes those with L have a mark more, and no mark else changed
use Rattle.std.specs.Prelude.{◌≡◌, ℕ, ◌*◌, ◌<◌, ◌≤◌, Bool, true, false, ◌⊎◌, List, length, Decides, sum, slice_index, slice_index_or, slice_set}
use Rattle.shapes.specs.Expr.{Schema}
use Rattle.shapes.specs.References.{Stratification}
use Rattle.shapes.specs.Typing.{Graph, Typing, In, Satisfied}
use Rattle.shapes.specs.Leaning.{Closed}
use Rattle.shapes.specs.Refining.{Covers}
use Rattle.shapes.specs.Bytes.{place}
use Rattle.refine.specs.declared.due.Due.{Due}
use Rattle.refine.specs.Deciding.{stratum, table}
use Rattle.refine.specs.Due.{is_due}

module _ (S : Schema) (G : Graph) (due : Due) where
  pub record Fits (x : List ℕ) : Type 0 where
    pub nodes : due.nodes ≡ G.nodes
    pub labels : due.labels ≡ S.labels
    pub long : due.nodes * due.labels ≤ length x

  pub record Narrowed (x y : List ℕ) : Type 0 where
    pub less : (k : ℕ) → slice_index y k ≤ slice_index x k
    pub same : (k : ℕ) → is_due due k ≡ false → slice_index y k ≡ slice_index x k
    pub covers : (C : Typing) → Stratification S (stratum due.strata.now) → Closed S G (In C) → ((n l : ℕ) → In C n l → (n < G.nodes) × (l < S.labels))
        → Covers S G (stratum due.strata.now) C due.stratum (table S G x) → Covers S G (stratum due.strata.now) C due.stratum (table S G y)

  abbrev pub Settled : List Bool → List ℕ → Type 0
  Settled marks x =
      (n l : ℕ) → n < G.nodes → l < S.labels → slice_index_or marks n false ≡ false → is_due due (place S.labels n l) ≡ true
      → In (table S G x) n l → Satisfied S G (In (table S G x)) n l

  abbrev pub Stable : List ℕ → Type 0
  Stable x = (n l : ℕ) → n < G.nodes → l < S.labels → is_due due (place S.labels n l) ≡ true → In (table S G x) n l → Satisfied S G (In (table S G x)) n l

  -- any says whether a byte was cleared
  module _ (any : Bool) (marks marks' : List Bool) (x y : List ℕ) where
    pub record Visited (node : ℕ) : Type 0 where
      pub change : Narrowed x y
      pub after : Settled marks x → Settled marks' y
      pub same : any ≡ false → (y ≡ x) × (marks' ≡ slice_set marks node false)
      pub fewer : any ≡ true → sum y < sum x

    pub record Passed (m : ℕ) : Type 0 where
      pub change : Narrowed x y
      pub after : Settled marks x → Settled marks' y
      pub same : any ≡ false → (y ≡ x) × ((n : ℕ) → n < m → slice_index_or marks' n false ≡ false)
      pub fewer : any ≡ true → sum y < sum x

pub record Marked (L : ℕ → Type 0) (m : ℕ) (x y : List Bool) : Type 0 where
  pub before : (n : ℕ) → n < m → Decides (slice_index_or y n false) ((slice_index_or x n false ≡ true) ⊎ L n)
  pub past : (n : ℕ) → m ≤ n → slice_index_or y n false ≡ slice_index_or x n false
