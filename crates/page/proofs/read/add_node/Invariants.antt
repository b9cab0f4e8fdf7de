use Rattle.std.proofs.Common.{◌≡◌, ◌≤◌, length, take, drop}
use Rattle.validate.specs.Promise.{Keeps}
use Rattle.page.specs.Format.{of_node}
use Rattle.page.specs.Loading.{Adds}
use Rattle.page.specs.Reading.{pairs}
use Rattle.page.proofs.read.add_node.Given as goal

-- the entries so far were accepted
abbrev pub invariant-loop-i : goal.invariant-loop-i
invariant-loop-i g l =
    (l.i-iterator.iter.a.rest.now ≡ drop l.i-iterator.count l.properties)
    × (l.i-iterator.iter.b.rest.now ≡ drop l.i-iterator.count l.objects)
    × (l.i-iterator.count ≤ length l.properties)
    × Adds (g.A.Validate.state l.initial.validator).ledger (of_node l.node (pairs (take l.i-iterator.count l.properties) (take l.i-iterator.count l.objects))) (g.A.Validate.state l.validator).ledger
    × Keeps (g.A.Validate.state l.initial.validator) (g.A.Validate.state l.validator)
