use Rattle.std.proofs.Common.{◌≡◌, ℕ, ◌-◌, true}
use Rattle.std.specs.List.{slice_get}
use Rattle.chain.specs.Links.{chain_at, chain, on, on_chain, arcs_of}
use Rattle.chain.proofs.calls.ChainStoreStore.arc.Given as goal

-- the arc asked for stands in what is left of the chain, as many places earlier as cells were passed
abbrev pub invariant-loop : goal.invariant-loop
invariant-loop l =
    ((f : ℕ) → on l.self.cells ((chain_at l.self.chains l.node).fan - l.counter) l.cell f ≡ true → on_chain l.self.chains l.self.cells l.node f ≡ true)
    × (slice_get (chain l.self.cells ((chain_at l.self.chains l.node).fan - l.counter) l.cell) (l.place - l.counter) ≡ slice_get (arcs_of l.self.chains l.self.cells l.node) l.place)
