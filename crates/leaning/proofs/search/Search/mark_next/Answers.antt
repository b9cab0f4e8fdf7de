use Rattle.std.proofs.Common.{◌≡◌, ◌<◌, true, sym, ap, ◌∙◌, subst, ⊎_elim, arith}
use Rattle.shapes.specs.Leaning.{Leans, Admits}
use Rattle.shapes.specs.Lists.{Member}
use Rattle.shapes.proofs.Lists.{nth_member, member_pushed}
use Rattle.triple.specs.Walks.{counted_left}
use Rattle.triple.proofs.Inside.{inside_nth}
use Rattle.shapes.proofs.Leaning.{decides_admits}
use Rattle.shapes.proofs.Satisfaction.{mentions_from_admits}
use Rattle.stack.specs.declared.Goal.{Goal}
use Rattle.leaning.specs.Labels.{schema_in}
use Rattle.leaning.specs.Pairs.{graph_of}
use Rattle.leaning.specs.Marking.{Covered}
use Rattle.leaning.proofs.Arcs.{next_arc, all_arcs}
use Rattle.leaning.proofs.Marking.{grown_none, grown_then, grown_like, covered_kept}
use Rattle.leaning.proofs.search.Search.mark_next.Goals as goal

pub loop-property-init : goal.loop-property-init
loop-property-init g c = record { grown = grown_none _ _; made = λ p o k m a. elim m [ ] }

pub mark_labels-requires : goal.mark_labels-requires
mark_labels-requires g c =
    let arcs = g.S.Store.arcs c.args.store.now c.args.pair.node in
    let object = c.in-Some.object in
    let arc = next_arc (counted_left g.S.Store.arcs) arcs _ _ _ c.next.new.self _ c.of-property-items.ensures.left c.into_iter-property-iterator.ensures.into_iter_gives c.loop-property.yielded_by (c.in-Some.property, object) c.in-Some.ensures.steps in
    let within : object < g.S.Store.nodes c.args.store.now = inside_nth _ arcs _ _ object (c.lawful-2.ensures.within c.args.pair.node) arc in
    let same = ap (λ p. p.nodes) c.loop-property.invariant.grown.frame.pairs in
    omega (arith, same, c.requires.pairs.0)

pub loop-property-preserved : goal.loop-property-preserved
loop-property-preserved g c =
    let n = c.args.pair.node in
    let l = c.args.pair.label in
    let S = schema_in c.args.tables.now in
    let arcs = g.S.Store.arcs c.args.store.now in
    let inv = c.loop-property.invariant in
    let W : Goal → Type 0 = λ h. Leans S (graph_of (g.S.Store.nodes c.args.store.now) arcs (λ x t. true)) n l h.node h.label in
    let step = c.mark_labels.ensures.change in
    let p' = c.in-Some.property in
    let o' = c.in-Some.object in
    let arc = next_arc (counted_left g.S.Store.arcs) (arcs n) _ _ _ c.next.new.self _ c.of-property-items.ensures.left c.into_iter-property-iterator.ensures.into_iter_gives c.loop-property.yielded_by (p', o') c.in-Some.ensures.steps in
    let labels = c.admitted.ensures in
    let same = ap (λ p. p.labels) inv.grown.frame.pairs in
    record {
      grown = grown_then W _ _ _ inv.grown (grown_like _ W _ _ (λ h v. (
        p',
        subst (λ z. Member (p', z) (arcs n)) (sym v.0) (nth_member (arcs n) _ (p', o') (sym arc)),
        (decides_admits S.sets (S.definition l) p' h.label).0 (sym (labels h.label) ∙ v.1),
      )) step);
      made = λ p o k m a. ⊎_elim (λ x. covered_kept _ _ step.frame _ (inv.made p o k x a))
          (λ (y : (p, o) ≡ (p', o')).
          let known = c.lawful.ensures.known l k (omega (arith, c.requires.pairs.1), mentions_from_admits S.sets (S.definition l) p k a) in
          subst (λ z. Covered c.mark_labels.new.self (record { node = z; label = k })) (sym (ap (λ z. z.1) y))
          (c.mark_labels.ensures.made k (omega (arith, same, c.requires.pairs.1))
          (labels k ∙ (decides_admits S.sets (S.definition l) p' k).1 (subst (λ z. Admits S.sets (S.definition l) z k) (ap (λ z. z.0) y) a))))
          (member_pushed _ _ m);
    }

pub returns : goal.returns
returns g c =
    let inv = c.loop-property.invariant in
    let all = all_arcs (counted_left g.S.Store.arcs) (g.S.Store.arcs c.args.store.now c.args.pair.node) _ _ _ c.next.new.self _ c.of-property-items.ensures.left c.into_iter-property-iterator.ensures.into_iter_gives c.loop-property.yielded_by c.in-None.ensures.steps in
    record { change = inv.grown; made = λ h l. inv.made l.0 h.node h.label (subst (Member (l.0, h.node)) (sym all) l.1) l.2 }
