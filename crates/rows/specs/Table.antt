-- Tables of rows, and the triples that they hold. Assumes nothing.
--     full s p o        a row that holds the triple (s, p, o); free, a row that holds none
--     arc_of n row      the arc of the row's triple, if the row holds one with the subject n
--     used rows         how many of the rows hold a triple
--     arcs_in n rows    the arcs of the node n: those of the rows that hold one, in their order
--     arcs_of rows      the arcs of each node in the first 1,024 rows
use Rattle.std.specs.Prelude.{ℕ, cond, List, take, is_some, Some, None, Option, ◌==◌, count_by, filter_map}
use Rattle.triple.specs.Arcs.{Arc}
use Rattle.triple.specs.Stores.{Lists}
use Rattle.triple.specs.declared.store.Triple.{Triple}

abbrev pub full : (s p o : ℕ) → Option Triple
full s p o = Some (record { subject = s; property = p; object = o })

abbrev pub free : Option Triple
free = None

abbrev pub arc_of : ℕ → Option Triple → Option Arc
arc_of n None = None
arc_of n (Some t) = cond (t.subject == n) (Some (t.property, t.object)) None

abbrev pub used : List (Option Triple) → ℕ
used rows = count_by is_some rows

abbrev pub arcs_in : ℕ → List (Option Triple) → List Arc
arcs_in n rows = filter_map (arc_of n) rows

abbrev pub arcs_of : List (Option Triple) → Lists
arcs_of rows n = arcs_in n (take 1024 rows)
