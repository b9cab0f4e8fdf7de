use Rattle.shapes.proofs.Greatest.{decided_stands}
use Rattle.shapes.proofs.decided_stands.Goals as goal

pub returns : goal.returns
returns c = decided_stands
