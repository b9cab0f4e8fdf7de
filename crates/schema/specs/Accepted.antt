-- What a schema's place holds and means. Assumes nothing.
--     accepted s     the tables of the draft that s accepted last
--     meaning s      the schema that they mean
use Rattle.shapes.specs.Expr as expr
use Rattle.draft.specs.Tables.{Tables, schema_of}
use Rattle.tables.specs.Held.{held}
use Rattle.schema.specs.declared.schema.Schema.{Schema}

abbrev pub accepted : Schema → Tables
accepted s = held s.tables

abbrev pub meaning : Schema → expr.Schema
meaning s = schema_of (accepted s)
