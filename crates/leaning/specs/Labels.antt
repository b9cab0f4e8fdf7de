-- The schema that the tables in a memory mean. Assumes nothing.
use Rattle.shapes.specs.Expr.{Schema}
use Rattle.draft.specs.Tables.{schema_of}
use Rattle.tables.specs.Held.{held}
use Rattle.tables.specs.declared.tables.LawfulTables.{LawfulTables}

abbrev pub schema_in : LawfulTables → Schema
schema_in m = schema_of (held m)
