use Rattle.std.proofs.Common.{get_or, rules, tests}
use Rattle.draft.specs.Tables.{schema_of}
use Rattle.tables.specs.Held.{held}
use Rattle.labels.specs.Members.{in_row, none}
use Rattle.labels.specs.Rows.{mentioned_in}
use Rattle.references.proofs.Drawing.{drawn}
use Rattle.references.proofs.Ranked.{ranked}
use Rattle.references.proofs.strata.ranks.Goals as goal

pub returns : goal.returns
returns c =
    let S = schema_of (held c.args.tables.now) in
    let rs = c.labels_of_definitions-references.result in
    let d = drawn S rs c.labels_of_definitions-references.ensures.mentioned c.labels_of_definitions-references.ensures.negated in
    ranked S (mentioned_in rs) (in_row c.reached-reach.result) d.refers c.lawful.ensures.few_labels c.lawful.ensures.known c.reached-reach.ensures
    (λ l. get_or c.map.result l 0) (λ l h. let call = c.map.ensures.items.at l none 0 h in search (rules, tests))
