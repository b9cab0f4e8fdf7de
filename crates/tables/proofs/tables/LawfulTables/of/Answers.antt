use Rattle.std.proofs.Common.{sym, arith}
use Rattle.draft.proofs.Lawful.{are_lawful}
use Rattle.tables.proofs.tables.LawfulTables.of.Goals as goal

pub copied-requires : goal.copied-requires
copied-requires c = (omega arith, (are_lawful _ (sym c.in_ok-check_rows.ensures)).few_labels)

pub copied-requires-2 : goal.copied-requires-2
copied-requires-2 c = (omega arith, (are_lawful _ (sym c.in_ok-check_rows.ensures)).few_shapes)

pub copied-requires-3 : goal.copied-requires-3
copied-requires-3 c = (omega arith, (are_lawful _ (sym c.in_ok-check_rows.ensures)).few_triples)

pub copied-requires-4 : goal.copied-requires-4
copied-requires-4 c = (omega arith, (are_lawful _ (sym c.in_ok-check_rows.ensures)).few_sets)
