use Rattle.hoods.proofs.Packing.{Packed}
use Rattle.hoods.proofs.words.pack.Given as goal

abbrev pub invariant-loop-m : goal.invariant-loop-m
invariant-loop-m l = Packed l.initial.words l.fn.c l.row l.m l.words
