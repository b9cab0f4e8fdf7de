use Rattle.shapes.proofs.Locality.{reached_only}
use Rattle.shapes.proofs.reached_only_stands.Goals as goal

pub returns : goal.returns
returns c = reached_only
