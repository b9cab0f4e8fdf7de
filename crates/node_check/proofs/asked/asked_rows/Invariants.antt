use Rattle.std.proofs.Common.{◌≡◌, ℕ, ◌<◌, ◌≤◌, length, get_or}
use Rattle.draft.specs.declared.rows.ShapeRow.TheVariants.{Value}
use Rattle.tables.specs.Held.{held}
use Rattle.masks.specs.Masks.{On}
use Rattle.draft.specs.Named.{NamesShape as Names}
use Rattle.node_check.specs.Named.{Hoods}
use Rattle.node_check.proofs.asked.asked_rows.Given as goal

abbrev pub invariant-loop-r : goal.invariant-loop-r
invariant-loop-r l =
    ((k : ℕ) → k < length (held l.tables).definitions → On l.wanted k → On l.shapes (get_or (held l.tables).definitions k 0))
    × ((r p : ℕ) → l.r ≤ r → r < length l.rows → On l.shapes r → Names (get_or l.rows r (Value 0)) p → On l.shapes p)
    × ((r e : ℕ) → l.r ≤ r → r < length l.rows → On l.shapes r → Hoods (get_or l.rows r (Value 0)) e → On l.triples e)
    × (length l.shapes ≡ 128)
    × (length l.triples ≡ 128)
