use Rattle.model.proofs.references.+in_shape.Given as goal

abbrev pub decreases-in_shape : goal.decreases-in_shape
decreases-in_shape l = l.depth
