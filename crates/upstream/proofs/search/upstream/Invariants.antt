use Rattle.std.proofs.Common.{◌≡◌, ℕ, ◌+◌, ◌*◌, ◌≤◌, Bool, length}
use Rattle.stack.specs.Entries.{entries}
use Rattle.upstream.specs.Search.{graph_of, unmarked, Searching}
use Rattle.upstream.proofs.search.upstream.Given as goal

abbrev pub invariant-loop-node : goal.invariant-loop-node
invariant-loop-node g l =
    ((passes : ℕ → ℕ → Bool) → Searching (graph_of (g.S.Store.nodes l.store) (g.S.Store.arcs l.store) passes) l.subject l.marks
    (entries l.waiting.slots.now l.waiting.len))
    × (length (entries l.waiting.slots.now l.waiting.len) + unmarked l.marks ≤ length l.waiting.slots.now)
    × (length l.marks ≡ 256)

abbrev pub decreases-loop-node : goal.decreases-loop-node
decreases-loop-node g l = 2 * unmarked l.marks + length (entries l.waiting.slots.now l.waiting.len)
