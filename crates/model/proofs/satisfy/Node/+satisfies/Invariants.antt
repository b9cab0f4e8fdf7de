use Rattle.model.proofs.satisfy.Node.+satisfies.Given as goal

abbrev pub decreases-satisfies : goal.decreases-satisfies
decreases-satisfies l = l.depth
