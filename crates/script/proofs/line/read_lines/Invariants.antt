use Rattle.std.proofs.Common.{◌+◌, ◌≤◌, length}
use Rattle.std.specs.Iterator.Adapters.{enumerate_source}
use Rattle.std.specs.Str.Iter.{lines_rest}
use Rattle.script.proofs.line.read_lines.Given as goal

abbrev pub invariant-loop-index : goal.invariant-loop-index
invariant-loop-index g l = length l.lines.items + length (lines_rest (enumerate_source l.index-iterator)) ≤ length l.text
