use Rattle.std.proofs.Common.{◌≡◌, length}
use Rattle.shapes.specs.Meaning.{Met}
use Rattle.shapes.specs.Typing.{In}
use Rattle.draft.specs.Rows.{triple_tree}
use Rattle.draft.specs.Tables.{schema_of}
use Rattle.tables.specs.Held.{held}
use Rattle.masks.specs.Masks.{On}
use Rattle.masks.proofs.Flags.{Upto}
use Rattle.hoods.specs.Arcs.{arcs_of}
use Rattle.hoods.specs.Typings.{typed}
use Rattle.hoods.proofs.Filling.{Filled}
use Rattle.hoods.proofs.Flagged.{flagged_tree}
use Rattle.hoods.proofs.neighbourhood.Neighbourhood.met_asked.Given as goal

abbrev pub invariant-loop-r : goal.invariant-loop-r
invariant-loop-r l =
    let t = held l.self.tables.now in
    let sets = (schema_of t).sets in
    let P = In (typed (length t.definitions) l.self.typing.now) in
    Filled sets P (arcs_of l.self.arcs.now) (flagged_tree l.needed t.triples) l.r l.scratch.words
    × Upto (λ p. On l.needed p × Met sets P (triple_tree t.triples p) (arcs_of l.self.arcs.now)) l.r l.met
    × (length l.met ≡ 128)
