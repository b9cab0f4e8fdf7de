use Rattle.std.proofs.Common.{◌≡◌, length, set, ap, ◌∙◌, add-one, arith}
use Rattle.page.specs.Format.{fans_of, over}
use Rattle.page.proofs.Laid.{over_push, over_whole, length_fans}
use Rattle.page.proofs.write.write_fans.Goals as goal

pub overflow_cast-node : goal.overflow_cast-node
overflow_cast-node g c = omega (arith, c.lawful.ensures.small)

pub loop-node-preserved : goal.loop-node-preserved
loop-node-preserved g c =
    let arcs = g.S.Store.arcs c.args.store.now in
    let n = c.loop-node.node in
    let buffer = c.args.fans.now in
    simp add-one
    (ap (λ z. set z n c.fan.result) c.loop-node.invariant
    ∙ ap (λ f. set (over buffer (fans_of n arcs)) n f) c.fan.ensures
    ∙ over_push buffer (fans_of n arcs) (length (arcs n)) n (length_fans n arcs) (omega arith))

pub returns : goal.returns
returns g c =
    let arcs = g.S.Store.arcs c.args.store.now in
    let end : c.loop-node.node ≡ g.S.Store.nodes c.args.store.now = omega arith in
    let long : length (fans_of c.loop-node.node arcs) ≡ length c.args.fans.now = omega (arith, length_fans c.loop-node.node arcs) in
    c.loop-node.invariant ∙ over_whole c.args.fans.now _ long ∙ ap (λ n. fans_of n arcs) end
