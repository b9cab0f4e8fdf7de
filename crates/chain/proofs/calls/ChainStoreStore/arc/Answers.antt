use Rattle.std.proofs.Common.{◌≡◌, ℕ, ◌-◌, ◌<◌, ◌≤◌, true, length, sym, refl, ap, ◌∙◌, arith}
use native.Mathlib.Nat.{sub-zero}
use Rattle.std.proofs.lemmas.Option.{slice_get_past}
use Rattle.chain.specs.declared.cells.Chain.{Chain}
use Rattle.chain.specs.Links.{cell_at, chain_at, on, on_chain, arcs_of}
use Rattle.chain.proofs.Chains.{chain_length, on_first, on_rest, nth_first, nth_rest, sub_more}
use Rattle.chain.proofs.calls.ChainStoreStore.arc.Goals as goal
use Rattle.chain.proofs.calls.ChainStoreStore.arc.Goals.{After-from, After-from-2}

pub returns-then-place-chain : goal.returns-then-place-chain
returns-then-place-chain c =
    let m = c.args.self.now in
    let chain = chain_at m.chains c.args.node in
    let beyond : length (arcs_of m.chains m.cells c.args.node) ≤ c.args.place = omega (arith, chain_length m.cells chain.fan chain.head, ap (λ (chain : Chain). chain.fan) c.chain-chain.ensures, c.if-place-chain.true) in
    sym (slice_get_past _ _ beyond)

pub loop-init : goal.loop-init
loop-init c =
    let head = ap (λ (chain : Chain). chain.head) c.chain-chain.ensures in
    (λ f h. rw (sub-zero, head) at h, simp (sub-zero, head) refl)

-- some of the chain is left, and its first cell is one of the memory's

below : (c : After-from) → c.from.result < 512
below c =
    let m = c.args.self.now in
    let left : 0 < (chain_at m.chains c.args.node).fan - c.loop.counter = omega (arith, ap (λ (chain : Chain). chain.fan) c.chain-chain.ensures) in
    rw c.from.ensures (m.linked c.args.node c.loop.cell (c.loop.invariant.0 c.loop.cell (on_first m.cells _ c.loop.cell left)))

last : (c : After-from-2) → 0 < (chain_at c.args.self.now.chains c.args.node).fan - c.loop.counter
last c = omega (arith, ap (λ (chain : Chain). chain.fan) c.chain-chain.ensures)

last_below : (c : After-from-2) → c.from-2.result < 512
last_below c =
    let m = c.args.self.now in
    rw c.from-2.ensures (m.linked c.args.node c.loop.cell (c.loop.invariant.0 c.loop.cell (on_first m.cells _ c.loop.cell (last c))))

pub offset_bounds-self-from : goal.offset_bounds-self-from
offset_bounds-self-from c = omega (arith, below (goal.at.offset_bounds-self-from c).After-from)

pub bounds-self-from : goal.bounds-self-from
bounds-self-from c = below (goal.at.bounds-self-from c).After-from

pub offset_bounds-self-from-2 : goal.offset_bounds-self-from-2
offset_bounds-self-from-2 c = omega (arith, last_below (goal.at.offset_bounds-self-from-2 c).After-from-2)

pub bounds-self-from-2 : goal.bounds-self-from-2
bounds-self-from-2 c = last_below (goal.at.bounds-self-from-2 c).After-from-2

pub loop-preserved : goal.loop-preserved
loop-preserved c =
    let m = c.args.self.now in
    let n = c.args.node in
    let k = (chain_at m.chains n).fan - c.loop.counter in
    let some : 0 < k = omega (arith, ap (λ (chain : Chain). chain.fan) c.chain-chain.ensures) in
    let later : 0 < c.args.place - c.loop.counter = omega arith in
    let kept : (f : ℕ) → on m.cells (k - 1) (cell_at m.cells c.loop.cell).next f ≡ true → on_chain m.chains m.cells n f ≡ true =
    λ f h. c.loop.invariant.0 f (on_rest m.cells k c.loop.cell f some h) in
    (simp (sub_more, c.from.ensures) kept, simp (sub_more, c.from.ensures) (nth_rest m.cells k c.loop.cell (c.args.place - c.loop.counter) some later ∙ c.loop.invariant.1))

pub returns : goal.returns
returns c =
    let m = c.args.self.now in
    let here : c.args.place - c.loop.counter ≡ 0 = omega arith in
    rw (c.from-3.ensures, c.from-2.ensures) (sym (nth_first m.cells _ c.loop.cell (last (goal.at.returns c).After-from-2)) ∙ (rw here at c.loop.invariant.1))
