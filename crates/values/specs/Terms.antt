-- What a term table says of a node. Assumes nothing.
--     literal_kind kind         terms of this kind are literals
--     meets test node kind      the test holds at a node of this number and kind
--     literal_term terms node   the node has a term, and that is a literal
--     passes_term terms tests node test   both numbers are in their tables, and the test holds at the node
use Rattle.std.specs.Prelude.{ℕ, Bool, true, false, ◌&&◌, List, int_le, nat_le}
use Rattle.values.specs.Table.{holds_at}
use Rattle.values.specs.declared.term.Term.{Term}
use Rattle.values.specs.declared.term.TermKind.{TermKind}
use Rattle.values.specs.declared.term.TermKind.TheVariants as kind
use Rattle.values.specs.declared.term.Test.{Test}
use Rattle.values.specs.declared.term.Test.TheVariants as test

abbrev pub literal_kind : TermKind → Bool
literal_kind kind.Iri = false
literal_kind kind.Blank = false
literal_kind kind.Text = true
literal_kind (kind.Whole value) = true

-- both ends are included
abbrev pub meets : Test → ℕ → TermKind → Bool
meets test.Iri node k = elim k [ kind.Iri ↦ true | kind.Blank ↦ false | kind.Text ↦ false | kind.Whole value ↦ false ]
meets test.Blank node k = elim k [ kind.Iri ↦ false | kind.Blank ↦ true | kind.Text ↦ false | kind.Whole value ↦ false ]
meets test.Literal node k = literal_kind k
meets test.Text node k = elim k [ kind.Iri ↦ false | kind.Blank ↦ false | kind.Text ↦ true | kind.Whole value ↦ false ]
meets (test.Whole lo hi) node k = elim k [ kind.Iri ↦ false | kind.Blank ↦ false | kind.Text ↦ false | kind.Whole value ↦ int_le lo value && int_le value hi ]
meets (test.Node first last) node k = nat_le first node && nat_le node last

abbrev pub literal_term : List Term → ℕ → Bool
literal_term terms node = holds_at terms node (λ term. literal_kind term.kind)

abbrev pub passes_term : List Term → List Test → ℕ → ℕ → Bool
passes_term terms tests node number = holds_at terms node (λ term. holds_at tests number (λ test. meets test node term.kind))
