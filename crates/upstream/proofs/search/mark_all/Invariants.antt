use Rattle.std.proofs.Common.{◌≡◌, ℕ, true, length}
use Rattle.stack.specs.Entries.{entries}
use Rattle.upstream.specs.Nodes.{Has, unfilled}
use Rattle.upstream.specs.Search.{marked, Grown}
use Rattle.upstream.proofs.search.mark_all.Given as goal

abbrev pub invariant-loop-node : goal.invariant-loop-node
invariant-loop-node l =
    record {
      grown : Grown (Has l.nodes) l.initial.marks (entries l.initial.waiting.slots.now l.initial.waiting.len) l.marks (entries l.waiting.slots.now l.waiting.len);
      made : (n : ℕ) → Has l.seen n → marked l.marks n ≡ true;
      long : length l.waiting.slots.now ≡ length l.initial.waiting.slots.now;
    }

abbrev pub decreases-loop-node : goal.decreases-loop-node
decreases-loop-node l = unfilled l.seen
