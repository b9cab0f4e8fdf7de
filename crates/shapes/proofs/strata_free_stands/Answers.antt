use Rattle.shapes.proofs.Strata.{strata_free}
use Rattle.shapes.proofs.strata_free_stands.Goals as goal

pub returns : goal.returns
returns c = strata_free
