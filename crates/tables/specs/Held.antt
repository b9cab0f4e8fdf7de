-- The tables that a fixed memory holds. Assumes nothing.
--     held m     the tables in the memory m
use Rattle.draft.specs.Tables.{Tables}
use Rattle.tables.specs.declared.tables.LawfulTables.{LawfulTables}

abbrev pub held : LawfulTables → Tables
held m = record { definitions = m.definitions.items; shapes = m.shapes.items; triples = m.triples.items; sets = m.sets.items }
