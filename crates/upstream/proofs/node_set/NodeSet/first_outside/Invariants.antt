use Rattle.std.proofs.Common.{ℕ, ◌/◌, ◌<◌}
use Rattle.upstream.specs.Nodes.{Has}
use Rattle.upstream.proofs.node_set.NodeSet.first_outside.Given as goal

abbrev pub invariant-loop-place : goal.invariant-loop-place
invariant-loop-place l = (n : ℕ) → n / 64 < l.place → Has l.self n → Has l.other n
