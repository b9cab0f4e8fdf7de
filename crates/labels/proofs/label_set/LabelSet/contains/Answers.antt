use Rattle.std.proofs.Common.{eqb, sym, ap, ◌∙◌, arith}
use Rattle.std.proofs.lemmas.Bool.{le-ltb}
use Rattle.std.proofs.lemmas.Nat.Bits.{bit_at_above}
use Rattle.labels.proofs.label_set.LabelSet.contains.Goals as goal

pub returns-else-label-lt32 : goal.returns-else-label-lt32
returns-else-label-lt32 c = le-ltb c.args.label 32 (omega arith) ∙ sym (ap (λ x. eqb x 1) (bit_at_above c.args.self.bits 32 c.args.label (omega arith) (omega arith)))
