use Rattle.std.proofs.Common.{◌≡◌, ◌+◌, ◌*◌, ◌≤◌, take, drop, sum}
use Rattle.page.specs.Loading.{wide}
use Rattle.page.proofs.head.count_arcs.Given as goal

-- no fan so far is above 12
abbrev pub invariant-loop-node : goal.invariant-loop-node
invariant-loop-node l = (l.total ≡ sum (take l.node l.fans)) × (l.total ≤ 12 * l.node) × (wide l.fans ≡ l.node + wide (drop l.node l.fans))
