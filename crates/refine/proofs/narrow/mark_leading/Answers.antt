use Rattle.std.proofs.Common.{ℕ, ◌++◌, drop, ◌∙◌, subst, arith, rules, tests}
use Rattle.std.proofs.lemmas.List.{length-take-le}
use Rattle.shapes.specs.Lists.{Member}
use Rattle.refine.specs.Narrowing.{Marked}
use Rattle.refine.proofs.Writing.{marked_or}
use Rattle.refine.proofs.narrow.mark_leading.Goals as goal

pub returns : goal.returns
returns g c =
    let G = g.C.NodeCheck.graph c.args.check.now in
    let L : ℕ → Type 0 = λ n. (p : ℕ) × Member (p, c.args.object) (G.arcs n) in
    let n = c.from-nodes.result in
    let x = c.args.marks.now in
    let y = c.write_where.new.items in
    subst (λ m. Marked L m x (y ++ drop n x)) (c.from-nodes.ensures ∙ c.node_count.ensures.value)
    (marked_or _ L x y n c.write_where.result (omega arith) (omega (arith, length-take-le n x (omega arith))) c.write_where.ensures (λ k b h t. search (rules, tests)))
