-- The parts of a mask in falling order. Assumes nothing.
--     after next        one more than the part that comes next; 0 after the last
--     below u next      the largest part of u that is smaller than the part next, if there is one
--     Gives s r t       a step from s to t gives r: the part that came next in s
use Rattle.std.specs.Prelude.{◌≡◌, ℕ, zero, suc, ◌+◌, Some, None, Option, bit_and}
use Rattle.masks.specs.declared.submasks.Submasks.{Submasks}

abbrev pub after : Option ℕ → ℕ
after None = 0
after (Some d) = d + 1

abbrev pub below : ℕ → Option ℕ → Option ℕ
below u None = None
below u (Some zero) = None
below u (Some (suc d)) = Some (bit_and d u)

abbrev pub Gives : Submasks → Option ℕ → Submasks → Type 0
Gives s r t = (r ≡ s.next) × (t.whole ≡ s.whole) × (t.next ≡ below s.whole s.next)
