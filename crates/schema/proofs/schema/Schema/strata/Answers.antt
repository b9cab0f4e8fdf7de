use Rattle.std.proofs.Common.{◌-◌, ◌≤◌, arith}
use Rattle.schema.specs.Accepted.{meaning}
use Rattle.schema.proofs.Written.{written_strata}
use Rattle.schema.proofs.schema.Schema.strata.Goals as goal

pub returns-clause-after : goal.returns-clause-after
returns-clause-after c =
    let S = meaning c.args.self.now in
    let few : S.labels ≤ 32 = c.lawful.ensures.few_labels in
    written_strata S c.lawful.ensures.known (c.label_count-labels.result - 0) c.ranks-strata.result c.copy_from_slice.new.self _
    (omega arith) (omega arith) c.copy_from_slice.ensures.after (c.ranks-strata.ensures c.args.self.now.acyclic)
