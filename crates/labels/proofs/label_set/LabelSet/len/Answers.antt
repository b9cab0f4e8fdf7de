use Rattle.std.proofs.Common.{arith}
use Rattle.labels.proofs.Bit.{ones_are}
use Rattle.labels.proofs.label_set.LabelSet.len.Goals as goal

pub returns : goal.returns
returns c = ones_are 32 c.args.self.bits (omega arith)
