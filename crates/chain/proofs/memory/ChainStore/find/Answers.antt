use Rattle.std.proofs.Common.{◌≡◌, ℕ, ◌-◌, ◌<◌, true, false, sym, refl, ap, ◌∙◌, arith}
use native.Mathlib.Nat.{sub-zero}
use Rattle.std.proofs.lemmas.Bool.{and_left, and_right, ne_eqb}
use Rattle.triple.specs.Arcs.{has, same}
use Rattle.chain.specs.declared.cells.Chain.{Chain}
use Rattle.chain.specs.Links.{cell_at, chain_at, arc_at, chain, on, on_chain}
use Rattle.chain.proofs.Chains.{on_first, on_rest, has_first, sub_more}
use Rattle.chain.proofs.memory.ChainStore.find.Goals as goal
use Rattle.chain.proofs.memory.ChainStore.find.Goals.{After-from, else-held-triple-via-then-held-triple+else-from-triple, else-held-triple-via-else-held-triple}

pub loop-init : goal.loop-init
loop-init c =
    let head = ap (λ (chain : Chain). chain.head) c.chain-chain.ensures in
    (λ f h. rw (sub-zero, head) at h, rw (sub-zero, head) refl)

-- some of the chain is left, and its first cell is one of the memory's

left : (c : After-from) → 0 < (chain_at c.args.self.now.chains c.args.triple.subject).fan - c.loop.counter
left c = omega (arith, ap (λ (chain : Chain). chain.fan) c.chain-chain.ensures)

below : (c : After-from) → c.from.result < 512
below c =
    let m = c.args.self.now in
    rw c.from.ensures (m.linked c.args.triple.subject c.loop.cell (c.loop.invariant.0 c.loop.cell (on_first m.cells _ c.loop.cell (left c))))

pub offset_bounds-self-from : goal.offset_bounds-self-from
offset_bounds-self-from c = omega (arith, below (goal.at.offset_bounds-self-from c).After-from)

pub bounds-self-from : goal.bounds-self-from
bounds-self-from c = below (goal.at.bounds-self-from c).After-from

pub loop-preserved : goal.loop-preserved
loop-preserved c =
    let m = c.args.self.now in
    let s = c.args.triple.subject in
    let p = c.args.triple.property in
    let o = c.args.triple.object in
    let k = (chain_at m.chains s).fan - c.loop.counter in
    let some : 0 < k = omega (arith, ap (λ (chain : Chain). chain.fan) c.chain-chain.ensures) in
    let kept : (f : ℕ) → on m.cells (k - 1) (cell_at m.cells c.loop.cell).next f ≡ true → on_chain m.chains m.cells s f ≡ true =
    λ f h. c.loop.invariant.0 f (on_rest m.cells k c.loop.cell f some h) in
    let other : same (arc_at m.cells c.from.result) p o ≡ false =
    elim c.else-held-triple.branch [ else-held-triple-via-then-held-triple+else-from-triple w ↦ and_right _ _ (ne_eqb _ _ (λ e. w.if-from-triple.false (w.from-then-held-triple.ensures ∙ e))) | else-held-triple-via-else-held-triple w ↦ and_left _ _ (ne_eqb _ _ w.if-held-triple.false) ] in
    let differs : same (arc_at m.cells c.loop.cell) p o ≡ false = rw c.from.ensures at other in
    (simp (sub_more, c.from.ensures) kept, simp (sub_more, c.from.ensures) (has_first m.cells k c.loop.cell p o some differs ∙ c.loop.invariant.1))

pub returns : goal.returns
returns c =
    let m = c.args.self.now in
    let none : (chain_at m.chains c.args.triple.subject).fan - c.loop.counter ≡ 0 = omega (arith, ap (λ (chain : Chain). chain.fan) c.chain-chain.ensures) in
    sym c.loop.invariant.1 ∙ ap (λ k. has c.args.triple.property c.args.triple.object (chain m.cells k c.loop.cell)) none
