use Rattle.std.proofs.Common.{◌≡◌, ℕ, ◌&&◌, ltb, length}
use Rattle.draft.specs.Tables.{schema_of}
use Rattle.tables.specs.Held.{held}
use Rattle.labels.specs.Mentions.{mentions, negates}
use Rattle.labels.specs.Rows.{mentioned_in, negated_in, admitted}
use Rattle.labels.proofs.mentions.labels_of_definitions.Given as goal

abbrev pub invariant-loop-label : goal.invariant-loop-label
invariant-loop-label g l =
    let t = held l.tables in
    let has = admitted (g.F.ArcFilter.admits l.filter) t.sets in
    (length l.labels ≡ 32)
    × ((a k : ℕ) → mentioned_in l.labels a k ≡ (ltb a l.label && mentions has ((schema_of t).definition a) k))
    × ((a k : ℕ) → negated_in l.labels a k ≡ (ltb a l.label && negates has ((schema_of t).definition a) k))
