use Rattle.std.proofs.Common.{◌≡◌, ℕ, ◌-◌, true}
use Rattle.triple.specs.Arcs.{has}
use Rattle.chain.specs.Links.{chain_at, on, chain, on_chain, arcs_of}
use Rattle.chain.proofs.memory.ChainStore.find.Given as goal

-- what is left of the chain holds the arc exactly if the whole chain does
abbrev pub invariant-loop : goal.invariant-loop
invariant-loop l =
    ((f : ℕ) → on l.self.cells ((chain_at l.self.chains l.triple.subject).fan - l.counter) l.cell f ≡ true → on_chain l.self.chains l.self.cells l.triple.subject f ≡ true)
    × (has l.triple.property l.triple.object (chain l.self.cells ((chain_at l.self.chains l.triple.subject).fan - l.counter) l.cell)
    ≡ has l.triple.property l.triple.object (arcs_of l.self.chains l.self.cells l.triple.subject))
