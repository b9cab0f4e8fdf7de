use Rattle.std.proofs.Common.{arith}
use Rattle.rows.proofs.Tables.{take_front}
use Rattle.rows.proofs.store.RowStore.front.Goals as goal

pub returns : goal.returns
returns c = take_front c.args.self.now.rows.now _ (omega arith)
