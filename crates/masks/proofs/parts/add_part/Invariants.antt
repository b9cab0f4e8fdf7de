use Rattle.masks.specs.Steps.{More}
use Rattle.masks.specs.Submasks.{after}
use Rattle.masks.proofs.Descending.{Left}
use Rattle.masks.proofs.Tally.{Lower}
use Rattle.masks.proofs.parts.add_part.Given as goal

abbrev pub invariant-loop-d : goal.invariant-loop-d
invariant-loop-d l =
    let it = l.d-iterator in
    (goal.iterator-loop-d).can_next it × (goal.iterator-loop-d).is_finite it × Left l.rest it × Lower l.initial.counts l.part l.rest l.counts × More l.initial.counts l.part l.rest (after it.next) l.counts
