use Rattle.std.proofs.Common.{◌≡◌, ◌<◌, refl, sym, ap, ◌∙◌, subst, inl, inr, ⊎_elim, arith}
use Rattle.shapes.specs.Lists.{Member}
use Rattle.shapes.proofs.Lists.{member_pushed}
use Rattle.triple.specs.Walks.{counted_left}
use Rattle.triple.proofs.Inside.{inside_nth}
use Rattle.upstream.specs.Arcs.{Leads}
use Rattle.upstream.proofs.Arcs.{leading_more, arc_leads, next_arc, all_arcs}
use Rattle.upstream.proofs.backward.Backward.add.Goals as goal

pub bounds-self-from : goal.bounds-self-from
bounds-self-from g c =
    let law = c.lawful.ensures in
    let arcs = g.S.Store.arcs c.args.store.now c.args.node in
    let object = c.in-Some.object in
    let arc = next_arc (counted_left g.S.Store.arcs) arcs _ _ _ c.next.new.self _ c.of-object-items.ensures.left c.into_iter-object-iterator.ensures.into_iter_gives c.loop-object.yielded_by (c.in-Some.field-0-0, object) c.in-Some.ensures.steps in
    let within : object < g.S.Store.nodes c.args.store.now = inside_nth _ arcs _ _ object (law.within c.args.node) arc in
    let small = law.small in
    omega (arith, c.from.ensures)

pub loop-object-preserved : goal.loop-object-preserved
loop-object-preserved g c =
    let node = c.args.node in
    let arcs = g.S.Store.arcs c.args.store.now in
    let at = c.from.result in
    let inv = c.loop-object.invariant in
    let small = c.lawful.ensures.small in
    let arc = next_arc (counted_left g.S.Store.arcs) (arcs node) _ _ _ c.next.new.self _ c.of-object-items.ensures.left c.into_iter-object-iterator.ensures.into_iter_gives c.loop-object.yielded_by (c.in-Some.field-0-0, c.in-Some.object) c.in-Some.ensures.steps in
    let within : c.in-Some.object < g.S.Store.nodes c.args.store.now = inside_nth _ (arcs node) _ _ c.in-Some.object (c.lawful.ensures.within node) arc in
    let more = leading_more c.loop-object.self node at c.insert.new.self (omega (arith, c.from.ensures)) c.insert.ensures.change in
    record {
      kept = λ n o h. (more n o).1 (inl (inv.kept n o h));
      more = λ n o h. ⊎_elim (inv.more n o) (λ (x : (n ≡ node) × (o ≡ at)). inr (x.0, subst (λ k. Leads arcs k o) (sym x.0) (subst (Leads arcs node) (sym (x.1 ∙ c.from.ensures)) (arc_leads arcs node _ _ arc)))) ((more n o).0 h);
      made = λ p o m. (more node o).1 (⊎_elim (λ x. inl (inv.made p o x)) (λ e. inr (refl, ap (λ x. x.1) e ∙ sym c.from.ensures)) (member_pushed _ _ m));
    }

pub returns : goal.returns
returns g c =
    let inv = c.loop-object.invariant in
    let all = all_arcs (counted_left g.S.Store.arcs) (g.S.Store.arcs c.args.store.now c.args.node) _ _ _ c.next.new.self _ c.of-object-items.ensures.left c.into_iter-object-iterator.ensures.into_iter_gives c.loop-object.yielded_by c.in-None.ensures.steps in
    record {
      kept = inv.kept;
      more = inv.more;
      made = λ o l. inv.made l.0 o (subst (Member (l.0, o)) (sym all) l.1);
    }
