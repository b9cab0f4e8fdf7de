use Rattle.std.proofs.Common.{◌≡◌, sym, subst, ⊎_elim, arith}
use Rattle.std.proofs.lemmas.Bool.{cases_eq}
use Rattle.upstream.specs.Arcs.{Leads, Leading}
use Rattle.upstream.proofs.Arcs.{leading_none, leads_below}
use Rattle.upstream.proofs.backward.Backward.of.Goals as goal

pub loop-node-init : goal.loop-node-init
loop-node-init g c = record { only = λ n o h. absurd (leading_none n o h); made = λ n o h. absurd (omega arith) }

pub loop-node-preserved : goal.loop-node-preserved
loop-node-preserved g c =
    let arcs = g.S.Store.arcs c.args.store.now in
    let node = c.loop-node.node in
    let inv = c.loop-node.invariant in
    let step = c.add.ensures in
    record {
      only = λ n o h. ⊎_elim (inv.only n o) (λ (x : (n ≡ node) × Leads arcs n o). x.1) (step.more n o h);
      made = λ n o h l. ⊎_elim
          (λ (e : n ≡ node). subst (λ k. Leading c.add.new.self k o) (sym e) (step.made o (subst (λ k. Leads arcs k o) e l)))
          (λ (e : n ≡ node → ⊥). step.kept n o (inv.made n o (omega arith) l)) (cases_eq n node);
    }

pub returns : goal.returns
returns g c n o =
    let inv = c.loop-node.invariant in
    (inv.only n o, λ l. let w = leads_below (g.S.Store.arcs c.args.store.now) (g.S.Store.nodes c.args.store.now) c.lawful.ensures.past n o l in inv.made n o (omega arith) l)
