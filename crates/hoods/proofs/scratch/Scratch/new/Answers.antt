use Rattle.std.proofs.Common.{◌≡◌, ℕ, get_or, replicate, inl, inr}
use lib.ListN.{get_or-replicate, length-replicate}
use Rattle.std.proofs.lemmas.List.{get_or_past}
use Rattle.std.proofs.lemmas.Bool.{cases_lt}
use Rattle.hoods.proofs.scratch.Scratch.new.Goals as goal

zeros : (n m : ℕ) → ◌≡◌ {A = ℕ} (get_or (replicate n 0) m 0) 0
zeros n m =
    elim (cases_lt m n) [
      | inl h ↦ get_or-replicate n m 0 0 h
      | inr h ↦ get_or_past (replicate n 0) m 0 (simp length-replicate h)
    ]

pub returns : goal.returns
returns c = zeros 4096
