use Rattle.draft.proofs.Flags.{Flagged}
use Rattle.draft.proofs.named.flag_named.Given as goal

abbrev pub invariant-loop-name : goal.invariant-loop-name
invariant-loop-name g l = Flagged l.initial.flags l.name-items l.name-index l.flags
