use Rattle.std.proofs.Common.{◌≡◌, ◌*◌, ◌≤◌, eqb, ◌++◌, length, get_or, take, drop, refl, sym, ◌∙◌, arith, rules, tests}
use Rattle.std.proofs.lemmas.Bool.{eq-eqb, true≢false}
use Rattle.std.proofs.lemmas.List.{get_or-take, length-append, length-drop, length-take-le}
use Rattle.std.proofs.lemmas.List.Folds.{list_any_at}
use Rattle.refine.proofs.Writing.{prefix_written}
use Rattle.refine.proofs.Decisions.{risen_start, risen_next, risen_skipped, risen_decided}
use Rattle.refine.proofs.strata.try_decide.Goals as goal
use Rattle.refine.proofs.strata.try_decide.Goals.{then-contains, else-contains}

pub narrow-requires : goal.narrow-requires
narrow-requires g c =
    let n = c.from-nodes.result * c.from-labels.result in
    let x = c.args.typing.now in
    let e : g.C.NodeCheck.schema c.loop-stratum.check ≡ g.C.NodeCheck.schema c.args.check.now = c.loop-stratum.invariant.0 in
    let f : g.C.NodeCheck.graph c.loop-stratum.check ≡ g.C.NodeCheck.graph c.args.check.now = c.loop-stratum.invariant.1 in
    let long : n ≤ length x = (c.has_room.ensures.0 c.if-not-has_room.false).typing_long in
    rw (e, f) (record {
      nodes = c.from-nodes.ensures ∙ c.node_count.ensures.value;
      labels = c.from-labels.ensures ∙ c.label_count.ensures.value;
      long = omega (arith, length-append c.write_where.new.items (drop n x), length-drop n x, length-take-le n x long);
    })

pub loop-stratum-init : goal.loop-stratum-init
loop-stratum-init g c =
    let S = g.C.NodeCheck.schema c.args.check.now in
    let G = g.C.NodeCheck.graph c.args.check.now in
    let nodes : c.from-nodes.result ≡ G.nodes = c.from-nodes.ensures ∙ c.node_count.ensures.value in
    let labels : c.from-labels.result ≡ S.labels = c.from-labels.ensures ∙ c.label_count.ensures.value in
    let n = c.from-nodes.result * c.from-labels.result in
    let x = c.args.typing.now in
    let y = c.write_where.new.items in
    let w = c.args.wanted.now in
    let long : n ≤ length x = (c.has_room.ensures.0 c.if-not-has_room.false).typing_long in (
      refl,
      refl,
      risen_start S G c.args.strata.now c.args.held.now w x (y ++ drop n x) (rw (← nodes, ← labels) (
          prefix_written _ 0 x y n c.write_where.result (λ k. eqb (get_or w k 0) 1) long (omega (arith, length-take-le n x long)) c.write_where.ensures (λ k b h t. search (rules, tests)))
          ),
    )

pub loop-stratum-preserved : goal.loop-stratum-preserved
loop-stratum-preserved g c =
    let S = g.C.NodeCheck.schema c.args.check.now in
    let G = g.C.NodeCheck.graph c.args.check.now in
    let l = c.loop-stratum in
    let e : g.C.NodeCheck.schema l.check ≡ S = l.invariant.0 in
    let f : g.C.NodeCheck.graph l.check ≡ G = l.invariant.1 in
    let strata = c.args.strata.now in
    let n = c.from-labels.result in
    let labels : n ≡ S.labels = c.from-labels.ensures ∙ c.label_count.ensures.value in
    let long : n ≤ length strata = (c.has_room.ensures.0 c.if-not-has_room.false).strata_long in
    elim c.if-contains.branch [
      | then-contains w ↦
          let k = w.narrow.ensures in
          rw (w.check-is, w.typing-is) (
            k.kept.0 ∙ e,
            k.kept.1 ∙ f,
            risen_next S G c.args.held.now _ (c.from-nodes.ensures ∙ c.node_count.ensures.value) labels c.args.typing.now l.typing w.raise.new.typing w.narrow.new.typing l.invariant.2
                w.raise.ensures (rw (e, f) at k.change) (rw (e, f) at k.after),
          )
      | else-contains w ↦
          rw (w.check-is, w.typing-is) (
            e,
            f,
            risen_skipped S G strata c.args.held.now c.args.wanted.now l.stratum-counter c.args.typing.now l.typing
                (λ m h t. absurd (true≢false (sym (list_any_at _ (take n strata) m 0 (omega (arith, length-take-le n strata long)) (eq-eqb _ _ (get_or-take n strata m 0 (omega arith) ∙ t)))
                ∙ sym c.contains.ensures.value ∙ w.if-contains.false))) l.invariant.2,
          )
    ]

pub returns-clause-ok : goal.returns-clause-ok
returns-clause-ok g c =
    let nodes : c.from-nodes.result ≡ (g.C.NodeCheck.graph c.args.check.now).nodes = c.from-nodes.ensures ∙ c.node_count.ensures.value in
    let labels : c.from-labels.result ≡ (g.C.NodeCheck.schema c.args.check.now).labels = c.from-labels.ensures ∙ c.label_count.ensures.value in
    (λ _. rw (← nodes, ← labels) (c.has_room.ensures.0 c.if-not-has_room.false), λ _. refl)

pub returns-clause-value : goal.returns-clause-value
returns-clause-value g c = λ _.
    risen_decided (g.C.NodeCheck.schema c.args.check.now) (g.C.NodeCheck.graph c.args.check.now) c.args.strata.now c.args.held.now c.args.wanted.now c.loop-stratum.stratum-counter
    c.args.typing.now c.loop-stratum.typing (omega arith) c.loop-stratum.invariant.2
