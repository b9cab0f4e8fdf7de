use Rattle.draft.proofs.Lawful.{are_lawful}
use Rattle.tables.proofs.tables.LawfulTables.lawful.Goals as goal

pub returns : goal.returns
returns c = are_lawful _ c.args.self.now.lawful
