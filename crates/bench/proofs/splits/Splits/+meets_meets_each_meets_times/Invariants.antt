use Rattle.bench.proofs.splits.Splits.+meets_meets_each_meets_times.Given as goal

abbrev pub decreases-meets : goal.decreases-meets
decreases-meets l = l.depth

abbrev pub decreases-meets_each : goal.decreases-meets_each
decreases-meets_each l = l.depth

abbrev pub decreases-meets_times : goal.decreases-meets_times
decreases-meets_times l = l.depth
