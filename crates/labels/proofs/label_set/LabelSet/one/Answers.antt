use Rattle.std.proofs.Common.{◌&&◌, eqb, ltb, ap, ◌∙◌}
use Rattle.std.specs.Int.{bit_at}
use Rattle.labels.proofs.Bit.{bit_of_one}
use Rattle.labels.proofs.label_set.LabelSet.one.Goals as goal

pub returns : goal.returns
returns c k =
    ap (λ x. eqb (bit_at x k) 1) c.unwrap_or.ensures
    ∙ bit_of_one c.from.result k c.checked_shl.result c.checked_shl.ensures
    ∙ ap (λ l. ltb l 32 && eqb l k) c.from.ensures
