use Rattle.shapes.proofs.Cases.{cases_right}
use Rattle.shapes.proofs.cases_stand.Goals as goal

pub returns : goal.returns
returns c = cases_right
