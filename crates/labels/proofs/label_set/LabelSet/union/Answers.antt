use Rattle.labels.proofs.Bit.{bit_of_or}
use Rattle.labels.proofs.label_set.LabelSet.union.Goals as goal

pub returns : goal.returns
returns c k = bit_of_or c.args.self.bits c.args.other.bits k
