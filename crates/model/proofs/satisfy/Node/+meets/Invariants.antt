use Rattle.model.proofs.satisfy.Node.+meets.Given as goal

abbrev pub decreases-meets : goal.decreases-meets
decreases-meets l = l.depth
