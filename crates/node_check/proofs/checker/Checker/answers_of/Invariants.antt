use Rattle.std.proofs.Common.{◌≡◌, length, get_or}
use Rattle.masks.specs.Masks.{On}
use Rattle.masks.proofs.Flags.{Upto}
use Rattle.node_check.proofs.checker.Checker.answers_of.Given as goal

abbrev pub invariant-loop-label : goal.invariant-loop-label
invariant-loop-label g l = Upto (λ k. On l.wanted k × On l.holds (get_or l.row-items k 0)) l.label l.answers × (length l.answers ≡ 32)
