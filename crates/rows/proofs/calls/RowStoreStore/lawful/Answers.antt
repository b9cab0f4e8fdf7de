use Rattle.rows.proofs.Tables.{lawful_in}
use Rattle.rows.proofs.calls.RowStoreStore.lawful.Goals as goal

pub returns : goal.returns
returns c = lawful_in c.args.self.now
