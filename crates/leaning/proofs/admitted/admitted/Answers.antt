use Rattle.std.proofs.Common.{◌∙◌}
use Rattle.labels.proofs.ByRows.{below}
use Rattle.leaning.specs.Labels.{schema_in}
use Rattle.leaning.proofs.Admitting.{mentions_admit}
use Rattle.leaning.proofs.admitted.admitted.Goals as goal

pub returns : goal.returns
returns c k =
    let S = schema_in c.args.tables.now in
    let l = c.args.label in
    below _ _ l S.labels c.requires (c.labels_of_definition.ensures.mentioned k) ∙ mentions_admit S.sets c.args.property k (S.definition l)
