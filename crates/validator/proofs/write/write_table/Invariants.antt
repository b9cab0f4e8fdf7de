use Rattle.validator.specs.Marks.{Written}
use Rattle.validator.proofs.write.write_table.Given as goal

abbrev pub invariant-loop-place : goal.invariant-loop-place
invariant-loop-place l = Written l.place l.fn.verdicts l.initial.table l.table
