use Rattle.triple.proofs.Walks.{walk_run}
use Rattle.triple.specs.Walks.{counted_left}
use Rattle.triple.proofs.counted_arcs.CountedArcs.of.Goals as goal

pub returns-clause-runs : goal.returns-clause-runs
returns-clause-runs g c = walk_run (counted_left g.S.Store.arcs)
