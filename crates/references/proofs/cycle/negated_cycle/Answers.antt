use Rattle.draft.specs.Tables.{schema_of}
use Rattle.tables.specs.Held.{held}
use Rattle.labels.specs.Members.{in_row}
use Rattle.labels.specs.Rows.{mentioned_in, negated_in}
use Rattle.references.proofs.Drawing.{drawn}
use Rattle.references.proofs.Found.{cycle_found}
use Rattle.references.proofs.cycle.negated_cycle.Goals as goal

pub returns : goal.returns
returns c =
    let rs = c.labels_of_definitions-references.result in
    let d = drawn (schema_of (held c.args.tables.now)) rs c.labels_of_definitions-references.ensures.mentioned c.labels_of_definitions-references.ensures.negated in
    cycle_found (schema_of (held c.args.tables.now)) (mentioned_in rs) (negated_in rs) (in_row c.reached-reach.result) d.refers d.negated
    c.lawful.ensures.few_labels c.lawful.ensures.known c.reached-reach.ensures c.first_cycle.result c.first_cycle.ensures
