use Rattle.std.proofs.Common.{◌≡◌, ◌+◌, false, ◌≢◌, [], ◌∷◌, ◌++◌, set, Some, sym, refl, ap, ◌∙◌, subst, arith}
use Rattle.std.specs.Option.{option_to_list}
use Rattle.std.proofs.lemmas.Bool.{lt-leb}
use Rattle.triple.specs.Arcs.{has}
use Rattle.triple.proofs.Refusals.{nodes_below}
use Rattle.chain.specs.Links.{chain_at, arcs_of}
use Rattle.chain.proofs.Chains.{chain_length}
use Rattle.chain.proofs.Upkeep.{Sound, sound_of, cell_has, found, not_found, put_added, put_sound}
use Rattle.chain.proofs.calls.ChainStoreStore.put.Goals as goal
use Rattle.chain.proofs.calls.ChainStoreStore.put.Goals.{After-pop}

pub returns-then-is_some : goal.returns-then-is_some
returns-then-is_some c =
    let m = c.args.self.now in
    let t = c.args.triple in
    let nodes = nodes_below m.nodes t.subject t.object c.in_ok-check_nodes.ensures in
    let cell = found c.find.result _ _ c.find.ensures (sym c.is_some.ensures ∙ c.if-is_some.true) in
    let there = cell_has m.chains m.cells t.subject cell.0 t.property t.object cell.1.0 cell.1.1 in
    record { answer = simp (lt-leb _ _ nodes.0, lt-leb _ _ nodes.1, there) refl; change = refl; kept = (refl, refl) }

-- what holds once no rule refuses

split : (c : After-pop) → c.args.self.now.free.items ≡ c.pop.new.self.items ++ c.in-Some.cell ∷ []
split c =
    let last : Some c.in-Some.cell ≡ c.pop.result = cc in
    c.pop.ensures.items ∙ ap (λ r. c.pop.new.self.items ++ option_to_list r) (sym last)

sound : (c : After-pop) → Sound c.args.self.now.nodes c.args.self.now.chains c.args.self.now.cells (c.pop.new.self.items ++ c.in-Some.cell ∷ [])
sound c = subst (λ free. Sound c.args.self.now.nodes c.args.self.now.chains c.args.self.now.cells free) (split c) (sound_of c.args.self.now)

absent : (c : After-pop) → has c.args.triple.property c.args.triple.object (arcs_of c.args.self.now.chains c.args.self.now.cells c.args.triple.subject) ≡ false
absent c = not_found c.find.result _ _ c.find.ensures (sym c.is_some.ensures ∙ c.if-is_some.false)

pub invariant_of-self : goal.invariant_of-self
invariant_of-self c =
    let m = c.args.self.now in
    let t = c.args.triple in
    let nodes = nodes_below m.nodes t.subject t.object c.in_ok-check_nodes.ensures in
    let chains = set m.chains c.from-subject.result (record { head = c.in-Some.cell; fan = c.chain-chain.result.fan + 1 }) in
    let cells = set m.cells c.from.result (record { property = t.property; object = t.object; next = c.chain-chain.result.head }) in
    let unfilled : (chain_at m.chains t.subject).fan ≢ 12 = λ e. c.if-fan-eq-MAX_FAN.false (c.fan.ensures ∙ chain_length m.cells (chain_at m.chains t.subject).fan (chain_at m.chains t.subject).head ∙ e) in
    let a : Sound m.nodes chains cells c.pop.new.self.items =
    rw (c.from-subject.ensures, c.from.ensures, c.chain-chain.ensures)
    (put_sound m.nodes m.chains m.cells (omega arith) t.subject t.property t.object nodes.0 c.pop.new.self.items c.in-Some.cell (sound c) (omega arith) (absent c) unfilled (omega arith) nodes.1) in
    record { small = a.small; counted = a.counted; few = a.few; past = a.past; apart = a.apart; within = a.within; linked = a.linked; own = a.own; spare = a.spare; unused = a.unused; unlike = a.unlike }

pub returns-clause-change : goal.returns-clause-change
returns-clause-change c =
    let m = c.args.self.now in
    let t = c.args.triple in
    let nodes = nodes_below m.nodes t.subject t.object c.in_ok-check_nodes.ensures in
    rw (c.from-subject.ensures, c.from.ensures, c.chain-chain.ensures)
    (put_added m.nodes m.chains m.cells (omega arith) t.subject t.property t.object nodes.0 c.pop.new.self.items c.in-Some.cell (sound (goal.at.returns-clause-change c).After-pop) (omega arith))
