use Rattle.shapes.proofs.Locality.{local}
use Rattle.shapes.proofs.local_stands.Goals as goal

pub returns : goal.returns
returns c = local
