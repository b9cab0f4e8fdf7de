use Rattle.check_tests.proofs.splits.+meets.Given as goal

abbrev pub decreases-meets : goal.decreases-meets
decreases-meets l = l.depth
