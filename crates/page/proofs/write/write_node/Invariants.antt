use Rattle.std.proofs.Common.{◌≡◌, ℕ, ◌+◌, List, ◌++◌, length, take, drop}
use Rattle.std.specs.Iterator.Adapters.{enumerate_source, enumerate_count}
use Rattle.triple.specs.Arcs.{Arc}
use Rattle.triple.specs.Stores.{total}
use Rattle.triple.specs.Walks.{counted_left}
use Rattle.page.specs.Laying.{laid}
use Rattle.page.proofs.write.write_node.Given as goal

abbrev pub invariant-loop-place : goal.invariant-loop-place
invariant-loop-place g l = record {
  callable : (goal.iterator-loop-place g).can_next l.place-iterator × (goal.iterator-loop-place g).is_finite l.place-iterator;
  left : counted_left g.S.Store.arcs (enumerate_source l.place-iterator) ≡ drop (enumerate_count l.place-iterator) (g.S.Store.arcs l.store l.node);
  counted : enumerate_count l.place-iterator + length (counted_left g.S.Store.arcs (enumerate_source l.place-iterator)) ≡ length (g.S.Store.arcs l.store l.node);
  ended : l.end ≡ l.at + enumerate_count l.place-iterator;
  put : (buffer : List ℕ) (done : List Arc) → length buffer ≡ length l.initial.arcs → l.at ≡ length done
      → l.initial.arcs ≡ laid buffer (total (g.S.Store.nodes l.store) (g.S.Store.arcs l.store)) done
      → l.arcs ≡ laid buffer (total (g.S.Store.nodes l.store) (g.S.Store.arcs l.store)) (done ++ take (enumerate_count l.place-iterator) (g.S.Store.arcs l.store l.node));
}
