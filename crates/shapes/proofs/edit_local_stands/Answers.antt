use Rattle.shapes.proofs.Locality.{edit_local}
use Rattle.shapes.proofs.edit_local_stands.Goals as goal

pub returns : goal.returns
returns c = edit_local
