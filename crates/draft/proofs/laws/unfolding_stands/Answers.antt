use Rattle.draft.proofs.Trees.{unfolds}
use Rattle.draft.proofs.laws.unfolding_stands.Goals as goal

pub returns : goal.returns
returns c = unfolds
