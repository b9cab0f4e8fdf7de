use Rattle.std.proofs.Common.{◌≡◌, ◌+◌, ◌++◌, length, take, drop, set, sym, ap, ◌∙◌, inl, arith}
use Rattle.std.specs.Iterator.Adapters.{enumerate_source, enumerate_count}
use Rattle.triple.specs.Stores.{total}
use Rattle.triple.specs.Walks.{counted_left}
use Rattle.page.specs.Laying.{laid}
use Rattle.page.proofs.Laid.{nth_object, laid_more, left_some}
use Rattle.page.proofs.write.write_node.Goals as goal

pub overflow_cast-arcs : goal.overflow_cast-arcs
overflow_cast-arcs g c =
    let arcs = g.S.Store.arcs c.args.store.now c.args.node in
    let here = left_some arcs (enumerate_count c.loop-place.place-iterator) (c.in-Some.property, c.in-Some.object) _ (sym c.loop-place.invariant.left ∙ c.in-Some.ensures.steps.0) in
    let small = nth_object _ arcs _ c.in-Some.property c.in-Some.object (c.lawful.ensures.within c.args.node) here.0 in
    omega (arith, small, c.lawful.ensures.small)

pub loop-place-preserved : goal.loop-place-preserved
loop-place-preserved g c =
    let half = total (g.S.Store.nodes c.args.store.now) (g.S.Store.arcs c.args.store.now) in
    let arcs = g.S.Store.arcs c.args.store.now c.args.node in
    let i = enumerate_count c.loop-place.place-iterator in
    let step = c.in-Some.ensures.steps in
    let here = left_some arcs i (c.in-Some.property, c.in-Some.object) _ (sym c.loop-place.invariant.left ∙ step.0) in
    let counted : enumerate_count c.next.new.self + length (counted_left g.S.Store.arcs (enumerate_source c.next.new.self)) ≡ length arcs = omega (arith, ap length step.0, step.2, c.loop-place.invariant.counted) in
    record {
      callable = ((tt, tt, inl (omega (arith, counted, c.lawful.ensures.few c.args.node))), tt);
      left = sym here.1 ∙ ap (λ k. drop k arcs) (sym step.2);
      counted = counted;
      ended = omega (arith, step.1, step.2);
      put = λ buffer done size e start.
          let inv = c.loop-place.invariant.put buffer done size e start in
          let put = laid_more buffer half done arcs c.args.at i c.in-Some.property c.in-Some.object (size ∙ c.requires.half) e c.requires.fits here.0 in
          let spot : c.args.at + c.in-Some.place ≡ c.args.at + i = omega (arith, step.1) in
          let behind : c.from-total.result + c.args.at + c.in-Some.place ≡ half + c.args.at + i = omega (arith, step.1) in
          let moved : set (set c.loop-place.arcs (c.args.at + c.in-Some.place) c.in-Some.property) (c.from-total.result + c.args.at + c.in-Some.place) c.in-Some.object
          ≡ set (set (laid buffer half (done ++ take i arcs)) (c.args.at + i) c.in-Some.property) (half + c.args.at + i) c.in-Some.object = cc (inv, spot, behind) in
          moved ∙ put ∙ ap (λ k. laid buffer half (done ++ take k arcs)) (sym step.2);
    }
