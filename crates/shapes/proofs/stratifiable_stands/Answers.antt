use Rattle.shapes.proofs.Cycle.{stratifiable}
use Rattle.shapes.proofs.stratifiable_stands.Goals as goal

pub returns : goal.returns
returns c = stratifiable
