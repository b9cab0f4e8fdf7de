-- What the words and the sets of masks say of the parts of a list of arcs. Assumes nothing.
--     with_row v q x      the word x with the row q, if v
--     Told .. f q words   for each row p below q, bit p of word m says whether the part m of the arcs meets f p
--     Tells .. e c        the set c says of each part of the arcs whether it meets e
--     Finds ..            the set c tells of a row, if the words tell of the rows that it may name
--     Meets ..            all the arcs together meet the triple row p of the tables t, under the typing in the table
use Rattle.std.specs.Prelude.{◌≡◌, ℕ, ◌+◌, ◌^◌, ◌<◌, Bool, true, cond, ◌↔◌, List, length, slice_index}
use Rattle.shapes.specs.Expr.{Triple}
use Rattle.shapes.specs.Meaning.{Arcs, Relation, Met}
use Rattle.shapes.specs.Typing.{In}
use Rattle.draft.specs.Refusals.{triple_names, ordered}
use Rattle.draft.specs.Rows.{triple_node, triple_tree}
use Rattle.draft.specs.Tables.{Tables, schema_of}
use Rattle.draft.specs.declared.rows.TripleRow.{TripleRow}
use Rattle.masks.specs.Masks.{On, Bit}
use Rattle.hoods.specs.Parts.{kept}
use Rattle.hoods.specs.Typings.{typed}

abbrev pub with_row : Bool → ℕ → ℕ → ℕ
with_row v q x = cond v (x + 2 ^ q) x

module _ (sets : ℕ → ℕ → Bool) (P : Relation) (zs : Arcs) where
  abbrev pub Told : (ℕ → Triple) → ℕ → List ℕ → Type 0
  Told f q words = (p m : ℕ) → p < q → m < 2 ^ length zs → Bit (slice_index words m) p ↔ Met sets P (f p) (kept m zs)

  abbrev pub Tells : Triple → List Bool → Type 0
  Tells e c = (m : ℕ) → m < 2 ^ length zs → On c m ↔ Met sets P e (kept m zs)

module _ (t : Tables) (table : List ℕ) (zs : Arcs) where
  abbrev pub Finds : TripleRow → List ℕ → List Bool → Type 0
  Finds row words c =
      let P = In (typed (schema_of t).labels table) in
      (f : ℕ → Triple) (q : ℕ) → triple_names (length t.sets) (length t.definitions) q row ≡ true → ordered row ≡ true
      → Told (schema_of t).sets P zs f q words → Tells (schema_of t).sets P zs (triple_node f row) c

  abbrev pub Meets : ℕ → Type 0
  Meets p =
      (p < length t.triples) × Met (schema_of t).sets (In (typed (schema_of t).labels table)) (triple_tree t.triples p) zs
