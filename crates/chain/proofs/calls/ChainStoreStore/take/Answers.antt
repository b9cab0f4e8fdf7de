use Rattle.std.proofs.Common.{◌-◌, ◌<◌, set, refl, arith}
use Rattle.std.proofs.lemmas.Bool.{lt-leb}
use Rattle.triple.proofs.Refusals.{nodes_below}
use Rattle.chain.specs.Links.{cell_at}
use Rattle.chain.proofs.Upkeep.{Sound, sound_of, cell_has, take_removed, not_all_free, head_below, take_sound}
use Rattle.chain.proofs.calls.ChainStoreStore.take.Goals as goal
use Rattle.chain.proofs.calls.ChainStoreStore.take.Goals.{In-Some, After-push}

subject : (c : In-Some) → c.args.triple.subject < c.args.self.now.nodes
subject c = (nodes_below c.args.self.now.nodes c.args.triple.subject c.args.triple.object c.in_ok-check_nodes.ensures).0

pub bounds-self-from : goal.bounds-self-from
bounds-self-from c =
    let m = c.args.self.now in
    let t = c.args.triple in
    let at = c.in-Some.ensures in
    rw (c.from.ensures, c.chain-chain.ensures)
    (head_below m.nodes m.chains m.cells (omega arith) t.subject t.property t.object (subject (goal.at.bounds-self-from c).In-Some) m.free.items (sound_of m) (omega arith) c.in-Some.cell at.0 at.1)

pub invariant_of-self : goal.invariant_of-self
invariant_of-self c =
    let m = c.args.self.now in
    let t = c.args.triple in
    let at = c.in-Some.ensures in
    let head = cell_at m.cells c.from.result in
    let chains = set m.chains c.from-subject.result (record { head = head.next; fan = c.chain-chain.result.fan - 1 }) in
    let cells = set m.cells c.from-3.result (record { property = head.property; object = head.object; next = (cell_at m.cells c.from-2.result).next }) in
    let a : Sound m.nodes chains cells c.push.new.self.items =
    rw (c.push.ensures.items, c.from-subject.ensures, c.from-3.ensures, c.from-2.ensures, c.from.ensures, c.chain-chain.ensures)
    (take_sound m.nodes m.chains m.cells (omega arith) t.subject t.property t.object (subject (goal.at.invariant_of-self c).In-Some) m.free.items (sound_of m) (omega arith) c.in-Some.cell at.0 at.1) in
    record { small = a.small; counted = a.counted; few = a.few; past = a.past; apart = a.apart; within = a.within; linked = a.linked; own = a.own; spare = a.spare; unused = a.unused; unlike = a.unlike }

pub push-requires : goal.push-requires
push-requires c =
    let m = c.args.self.now in
    let t = c.args.triple in
    let at = c.in-Some.ensures in (
      omega arith,
      not_all_free m.nodes m.chains m.cells (omega arith) t.subject t.property t.object (subject (goal.at.push-requires c).In-Some) m.free.items (sound_of m) (omega arith) c.in-Some.cell at.0 at.1,
    )

pub returns-clause-answer : goal.returns-clause-answer
returns-clause-answer c =
    let m = c.args.self.now in
    let t = c.args.triple in
    let nodes = nodes_below m.nodes t.subject t.object c.in_ok-check_nodes.ensures in
    let there = cell_has m.chains m.cells t.subject c.in-Some.cell t.property t.object c.in-Some.ensures.0 c.in-Some.ensures.1 in
    simp (lt-leb _ _ nodes.0, lt-leb _ _ nodes.1, there) refl

pub returns-clause-change : goal.returns-clause-change
returns-clause-change c =
    let m = c.args.self.now in
    let t = c.args.triple in
    let at = c.in-Some.ensures in
    rw (c.from-subject.ensures, c.from-3.ensures, c.from-2.ensures, c.from.ensures, c.chain-chain.ensures)
    (take_removed m.nodes m.chains m.cells (omega arith) t.subject t.property t.object (subject (goal.at.returns-clause-change c).In-Some) m.free.items (sound_of m) (omega arith) c.in-Some.cell at.0 at.1)
