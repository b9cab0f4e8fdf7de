use Rattle.std.proofs.Common.{◌≡◌, ℕ, ◌+◌, ◌^◌}
use Rattle.masks.specs.Steps.{Spread}
use Rattle.masks.specs.Submasks.{after}
use Rattle.masks.proofs.Descending.{Left}
use Rattle.masks.proofs.join.spread.Given as goal

abbrev pub invariant-loop-d : goal.invariant-loop-d
invariant-loop-d l =
    let it = l.d-iterator in
    let u = l.initial.d-iterator.whole in
    (goal.iterator-loop-d).can_next it × (goal.iterator-loop-d).is_finite it × Left u it × ((n : ℕ) → l.s + u + 1 ≡ 2 ^ n → Spread n l.initial.c l.b l.s u (after it.next) l.c)
