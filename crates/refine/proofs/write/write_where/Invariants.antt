use Rattle.refine.specs.Writing.{WrittenUpTo}
use Rattle.refine.proofs.write.write_where.Given as goal

abbrev pub invariant-loop-place : goal.invariant-loop-place
invariant-loop-place g l = WrittenUpTo (goal.F-post g l.test) l.value l.initial.items l.place l.written l.items
