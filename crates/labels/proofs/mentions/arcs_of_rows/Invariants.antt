use Rattle.std.proofs.Common.{◌≡◌, ℕ, ◌&&◌, ltb, length}
use Rattle.draft.specs.Rows.{triple_tree}
use Rattle.tables.specs.Held.{held}
use Rattle.labels.specs.Members.{in_row}
use Rattle.labels.specs.Mentions.{has_arc}
use Rattle.labels.specs.Rows.{admitted}
use Rattle.labels.proofs.mentions.arcs_of_rows.Given as goal

abbrev pub invariant-loop-r : goal.invariant-loop-r
invariant-loop-r g l =
    (length l.rows ≡ 128)
    × ((a k : ℕ) → in_row l.rows a k ≡ (ltb a l.r && has_arc (admitted (g.F.ArcFilter.admits l.filter) (held l.tables).sets) (triple_tree (held l.tables).triples a) k))
