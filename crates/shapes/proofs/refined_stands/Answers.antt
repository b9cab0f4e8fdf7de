use Rattle.shapes.proofs.Refinement.{refined}
use Rattle.shapes.proofs.refined_stands.Goals as goal

pub returns : goal.returns
returns c = refined
