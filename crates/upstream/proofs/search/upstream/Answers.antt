use Rattle.std.proofs.Common.{sym, ℕ, ◌↔◌, ◌≡◌, ◌+◌, ◌<◌, ◌≤◌, true, false, not, [], length, replicate, ap, ◌∙◌, subst, arith}
use Rattle.std.proofs.lemmas.List.{length_push}
use Rattle.std.proofs.lemmas.List.Sums.{count_by-le-length}
use Rattle.std.proofs.lemmas.Bool.{both_ways}
use Rattle.stack.specs.Entries.{entries}
use Rattle.upstream.specs.Arcs.{Leads}
use Rattle.upstream.specs.Nodes.{Has}
use Rattle.upstream.specs.Search.{unmarked, Searching, Grown}
use Rattle.upstream.proofs.Marking.{grown_like, marked_none, waits_below, searching_one, searching_more, searched}
use Rattle.upstream.proofs.search.upstream.Goals as goal

pub returns-then-subject-node_count : goal.returns-then-subject-node_count
returns-then-subject-node_count g c passes n =
    (λ h. absurd (both_ways _ (marked_none 256 n) h), λ h. let z : c.args.subject < g.S.Store.nodes c.args.store.now = h.0 in absurd (omega arith))

pub loop-node-init : goal.loop-node-init
loop-node-init g c =
    let w = c.over-waiting.result in
    let none : entries w.slots.now w.len ≡ [] = ap (entries w.slots.now) c.over-waiting.ensures.len in
    let step = subst (λ es. Grown (λ n. n ≡ c.args.subject) (replicate 256 false) es c.mark.new.marks (entries c.mark.new.waiting.slots.now c.mark.new.waiting.len)) none c.mark.ensures.change in
    let number = step.number in
    let size : length w.slots.now ≡ 256 = ap length c.over-waiting.ensures.same in
    let most : unmarked (replicate 256 false) ≤ 256 = count_by-le-length not (replicate 256 false) in (
      λ passes. searching_one _ _ (replicate 256 false) _ _ (marked_none 256) step c.mark.ensures.made,
      omega (arith, c.mark.ensures.kept),
      c.mark.array_long,
    )

pub sources-requires : goal.sources-requires
sources-requires g c =
    let inv = c.loop-node.invariant in
    let b = waits_below _ _ c.loop-node.marks _ _ c.in-Some.node (inv.0 (λ n t. true)) c.in-Some.ensures.change in
    omega arith

pub mark_all-requires : goal.mark_all-requires
mark_all-requires g c =
    let w = c.pop.new.self in
    let e : length (entries c.loop-node.waiting.slots.now c.loop-node.waiting.len) ≡ length (entries w.slots.now w.len) + 1 =
    ap length c.in-Some.ensures.change ∙ length_push _ _ in
    let inv = c.loop-node.invariant in
    omega (arith, ap length c.in-Some.ensures.same)

pub loop-node-preserved : goal.loop-node-preserved
loop-node-preserved g c =
    let w = c.pop.new.self in
    let popped = c.in-Some.ensures.change in
    let e : length (entries c.loop-node.waiting.slots.now c.loop-node.waiting.len) ≡ length (entries w.slots.now w.len) + 1 =
    ap length popped ∙ length_push _ _ in
    let inv = c.loop-node.invariant in
    let arcs = g.S.Store.arcs c.args.store.now in
    let value : (n : ℕ) → Has c.sources.result.now n ↔ Leads arcs n c.in-Some.node =
    λ n. subst (λ s. Has s n ↔ Leads arcs n c.in-Some.node) (sym c.sources.ensures) (c.of-backward.ensures n c.in-Some.node) in
    let step = c.mark_all.ensures.change in
    let number = step.number in (
      λ passes. searching_more _ _ _ _ _ _ c.in-Some.node (subst (Searching _ _ _) popped (inv.0 passes))
          (grown_like _ _ _ _ _ _ (λ n. (value n).0) step) (λ n l. c.mark_all.ensures.made n ((value n).1 l)),
      omega (arith, c.mark_all.ensures.kept, ap length c.in-Some.ensures.same),
      c.mark_all.array_long,
    )

pub returns : goal.returns
returns g c passes n =
    let p = c.loop-node.invariant.0 passes in (
      λ m. (omega arith, p.reaches n m),
      λ h. searched _ _ _ (subst (Searching _ _ _) c.in_default.ensures.change p) n h.1,
    )
