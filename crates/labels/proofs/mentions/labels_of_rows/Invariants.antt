use Rattle.std.proofs.Common.{◌≡◌, ℕ, ◌&&◌, ltb, length}
use Rattle.draft.specs.Rows.{shape_tree}
use Rattle.tables.specs.Held.{held}
use Rattle.labels.specs.Mentions.{mentions, negates}
use Rattle.labels.specs.Rows.{mentioned_in, negated_in, admitted}
use Rattle.labels.proofs.mentions.labels_of_rows.Given as goal

abbrev pub invariant-loop-r : goal.invariant-loop-r
invariant-loop-r g l =
    let t = held l.tables in
    let has = admitted (g.F.ArcFilter.admits l.filter) t.sets in
    (length l.rows ≡ 128)
    × ((a k : ℕ) → mentioned_in l.rows a k ≡ (ltb a l.r && mentions has (shape_tree t.triples t.shapes a) k))
    × ((a k : ℕ) → negated_in l.rows a k ≡ (ltb a l.r && negates has (shape_tree t.triples t.shapes a) k))
