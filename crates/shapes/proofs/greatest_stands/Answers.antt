use Rattle.shapes.proofs.Greatest.{greatest_stands}
use Rattle.shapes.proofs.greatest_stands.Goals as goal

pub returns : goal.returns
returns c = greatest_stands
