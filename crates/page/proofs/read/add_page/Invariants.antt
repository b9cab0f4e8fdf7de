use Rattle.std.proofs.Common.{◌≡◌, take, sum}
use Rattle.validate.specs.Promise.{Keeps}
use Rattle.page.specs.Format.{triples_of}
use Rattle.page.specs.Loading.{Adds}
use Rattle.page.specs.Reading.{rows}
use Rattle.page.proofs.read.add_page.Given as goal

-- the nodes so far were accepted
abbrev pub invariant-loop-node : goal.invariant-loop-node
invariant-loop-node g l =
    (l.at ≡ sum (take l.node l.fans))
    × Adds (g.A.Validate.state l.initial.validator).ledger (triples_of l.node (rows l.fans l.properties l.objects)) (g.A.Validate.state l.validator).ledger
    × Keeps (g.A.Validate.state l.initial.validator) (g.A.Validate.state l.validator)
