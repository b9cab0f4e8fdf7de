use Rattle.draft.proofs.Lawful.{are_lawful}
use Rattle.draft.proofs.laws.lawful_stands.Goals as goal

pub returns : goal.returns
returns c = are_lawful
