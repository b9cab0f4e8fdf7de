use Rattle.std.proofs.Common.{ℕ, ◌<◌, ◌↔◌, get_or}
use Rattle.masks.specs.Masks.{On, Bit}
use Rattle.hoods.proofs.words.unpack.Given as goal

abbrev pub invariant-loop-m : goal.invariant-loop-m
invariant-loop-m l = (k : ℕ) → k < l.m → On l.masks k ↔ Bit (get_or l.words k 0) l.row
