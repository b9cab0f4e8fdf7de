use Rattle.std.proofs.Common.{◌≡◌, drop, take}
use Rattle.validate.specs.Promise.{Under, Keeps}
use Rattle.replay.specs.Runs.{all_lent}
use Rattle.replay.proofs.Turns.{GoesOn}
use Rattle.replay.proofs.run.replay.Given as goal

abbrev pub invariant-loop-i : goal.invariant-loop-i
invariant-loop-i g l =
    (l.at ≡ all_lent (take l.i l.calls))
    × (drop l.i l.answers ≡ drop l.i l.initial.answers)
    × (drop l.at l.tables ≡ drop l.at l.initial.tables)
    × Keeps (g.A.Validate.state l.initial.validator) (g.A.Validate.state l.validator)
    × Under (g.A.Validate.state l.initial.validator)
    (λ σ. GoesOn (g.A.Validate.state l.initial.validator).schema σ (g.A.Validate.state l.initial.validator).ledger l.calls l.answers l.initial.tables l.tables l.i l.at (g.A.Validate.state l.validator).ledger)
