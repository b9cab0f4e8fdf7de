use Rattle.std.proofs.Common.{◌≡◌, ℕ, ◌<◌, cond, eqb, get_or}
use Rattle.validator.proofs.decide.want_unheld.Given as goal

abbrev pub invariant-loop-place : goal.invariant-loop-place
invariant-loop-place l = (k : ℕ) → k < l.place → get_or l.wanted k 0 ≡ cond (eqb (get_or l.fn.held k 0) 1) 0 1
