-- Ways of steps between labels. Assumes nothing.
--     way R m l k     steps of R lead from l to k by labels below m; l = k is such a way
use Rattle.std.specs.Prelude.{ℕ, zero, suc, Bool, ◌&&◌, ◌||◌, ◌==◌}

unfoldable pub way : (ℕ → ℕ → Bool) → ℕ → ℕ → ℕ → Bool
way R zero l k = l == k || R l k
way R (suc m) l k = way R m l k || (way R m l m && way R m m k)
