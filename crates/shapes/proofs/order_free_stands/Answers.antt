use Rattle.shapes.proofs.Locality.{order_free}
use Rattle.shapes.proofs.order_free_stands.Goals as goal

pub returns : goal.returns
returns c = order_free
