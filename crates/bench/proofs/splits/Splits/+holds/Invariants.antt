use Rattle.bench.proofs.splits.Splits.+holds.Given as goal

abbrev pub decreases-holds : goal.decreases-holds
decreases-holds g l = l.depth
