use Rattle.std.proofs.Common.{◌≡◌, eqb, take, count_by, ◌∙◌, rules}
use Rattle.validator.proofs.Writing.{ones_counted}
use Rattle.validator.proofs.write.write_table.Goals as goal

pub returns-clause-value : goal.returns-clause-value
returns-clause-value c =
    let counted : c.count.result ≡ count_by (λ x. eqb x 1) (take c.args.size c.loop-place.table) = search rules in
    counted ∙ ones_counted (take c.args.size c.loop-place.table)
