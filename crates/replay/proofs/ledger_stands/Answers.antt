use Rattle.replay.proofs.Determined.{steady, determined}
use Rattle.replay.proofs.ledger_stands.Goals as goal

pub returns : goal.returns
returns c = record { call = steady; calls = determined }
