use Rattle.std.proofs.Common.{◌∙◌}
use Rattle.rows.proofs.Tables.{found_present}
use Rattle.rows.proofs.store.RowStore.is_present.Goals as goal

pub returns : goal.returns
returns c =
    let t = c.args.triple in
    c.is_some.ensures ∙ found_present c.args.self.now.rows.now t.subject t.property t.object c.find.result c.find.ensures
