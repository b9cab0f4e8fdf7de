use Rattle.triple.proofs.Walks.{arcs_run}
use Rattle.triple.proofs.arcs.Arcs.of.Goals as goal

pub returns-clause-runs : goal.returns-clause-runs
returns-clause-runs g c = arcs_run g.S.Store.arcs
