use Rattle.model.proofs.references.+in_triple.Given as goal

abbrev pub decreases-in_triple : goal.decreases-in_triple
decreases-in_triple l = l.depth
