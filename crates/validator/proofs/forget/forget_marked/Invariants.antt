use Rattle.std.proofs.Common.{◌≡◌, ℕ, ◌/◌, false, cond, ◌&&◌, ltb, get_or}
use Rattle.validator.proofs.forget.forget_marked.Given as goal

abbrev pub invariant-loop-place : goal.invariant-loop-place
invariant-loop-place l = (k : ℕ) → get_or l.held k 0 ≡ cond (ltb k l.place && get_or l.marks (k / l.labels) false) 0 (get_or l.initial.held k 0)
