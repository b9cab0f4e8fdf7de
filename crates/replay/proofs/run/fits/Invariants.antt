use Rattle.std.proofs.Common.{◌≡◌, ◌+◌, take}
use Rattle.replay.specs.Runs.{all_lent}
use Rattle.replay.proofs.run.fits.Given as goal

-- what is left is the bytes less what the calls so far are lent
abbrev pub invariant-loop-call : goal.invariant-loop-call
invariant-loop-call l = all_lent (take l.call-index l.calls) + l.left ≡ l.bytes
