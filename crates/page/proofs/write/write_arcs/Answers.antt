use Rattle.std.proofs.Common.{◌≡◌, ◌+◌, length, sym, refl, ap, ◌∙◌, add-one, arith}
use Rattle.triple.specs.Stores.{total}
use Rattle.page.specs.Format.{arcs_of}
use Rattle.page.specs.Laying.{laid}
use Rattle.page.proofs.Laid.{laid_none, laid_all, length_arcs, total_within}
use Rattle.page.proofs.write.write_arcs.Goals as goal

pub loop-node-init : goal.loop-node-init
loop-node-init g c = (refl, sym (laid_none c.args.arcs.now _))

pub write_node-at-requires : goal.write_node-at-requires
write_node-at-requires g c =
    let s = c.args.store.now in
    let within = total_within (g.S.Store.arcs s) (g.S.Store.nodes s) c.loop-node.node (omega arith) in
    record { half = c.loop-node.auto.arcs ∙ c.requires; fits = omega (arith, within, c.loop-node.invariant.0) }

pub loop-node-preserved : goal.loop-node-preserved
loop-node-preserved g c =
    let arcs = g.S.Store.arcs c.args.store.now in
    let n = c.loop-node.node in
    let size : length c.args.arcs.now ≡ length c.loop-node.arcs = sym c.loop-node.auto.arcs in
    simp add-one (
      c.write_node-at.ensures.value ∙ ap (λ k. k + length (arcs n)) c.loop-node.invariant.0,
      c.write_node-at.ensures.after c.args.arcs.now (arcs_of n arcs) size (c.loop-node.invariant.0 ∙ sym (length_arcs n arcs)) c.loop-node.invariant.1,
    )

pub returns : goal.returns
returns g c =
    let s = c.args.store.now in
    let arcs = g.S.Store.arcs s in
    let end : c.loop-node.node ≡ g.S.Store.nodes s = omega arith in
    c.loop-node.invariant.1
    ∙ ap (λ n. laid c.args.arcs.now (total (g.S.Store.nodes s) arcs) (arcs_of n arcs)) end
    ∙ laid_all c.args.arcs.now _ (arcs_of (g.S.Store.nodes s) arcs) c.requires (length_arcs (g.S.Store.nodes s) arcs)
