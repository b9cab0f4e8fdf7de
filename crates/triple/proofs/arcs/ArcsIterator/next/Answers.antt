use Rattle.std.proofs.Common.{rules, sym, arith}
use Rattle.std.proofs.lemmas.Option.{slice_get_within}
use Rattle.triple.proofs.Walks.{some_left, none_left}
use Rattle.triple.proofs.arcs.ArcsIterator.next.Goals as goal

pub returns-in_err-arc-clause-steps : goal.returns-in_err-arc-clause-steps
returns-in_err-arc-clause-steps g c =
    let it = c.args.self.now in
    let none = none_left (g.S.Store.arcs it.store.now it.node) it.place c.in_err-arc.ensures in
    rw c.from_residual.ensures (none, none)

pub overflow_add-self : goal.overflow_add-self
overflow_add-self g c =
    let it = c.args.self.now in
    let below = slice_get_within (g.S.Store.arcs it.store.now it.node) it.place c.in_ok-arc.arc (sym c.in_ok-arc.ensures) in
    omega (arith, below, c.lawful.ensures.few it.node)

pub returns-clause-steps : goal.returns-clause-steps
returns-clause-steps g c =
    let it = c.args.self.now in
    some_left (g.S.Store.arcs it.store.now it.node) it.place c.in_ok-arc.arc c.in_ok-arc.ensures

pub returns-clause-goes : goal.returns-clause-goes
returns-clause-goes g c =
    let it = c.args.self.now in
    let step = some_left (g.S.Store.arcs it.store.now it.node) it.place c.in_ok-arc.arc c.in_ok-arc.ensures in
    search (rules, step)
