use Rattle.validator.specs.Marks.{Joined}
use Rattle.validator.proofs.decide.hold.Given as goal

abbrev pub invariant-loop-place : goal.invariant-loop-place
invariant-loop-place l = Joined l.place l.fn.wanted l.initial.held l.held
