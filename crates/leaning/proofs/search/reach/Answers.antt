use Rattle.std.proofs.Common.{◌≡◌, ◌*◌, ◌<◌, length, drop, rules, sym, ap, ◌∙◌, subst, arith}
use Rattle.shapes.specs.Bytes.{byte_typing}
use Rattle.leaning.specs.Labels.{schema_in}
use Rattle.leaning.specs.Marking.{Frame}
use Rattle.leaning.specs.Pairs.{Clean, graph_of}
use Rattle.leaning.specs.Search.{Looked}
use Rattle.leaning.proofs.Marking.{frame_none, frame_then, popped_found, popped_less, said, still, searching_one, searching_more, looked}
use Rattle.leaning.proofs.Showing.{shown}
use Rattle.leaning.proofs.search.reach.Goals as goal

pub loop-pair-init : goal.loop-pair-init
loop-pair-init g c =
    record { frame = frame_none _; searching = λ passes. searching_one _ _ _ _ _ _ c.over-search.ensures.begun.none c.mark.ensures.change c.mark.ensures.made }

pub mark_next-requires-clause-pairs : goal.mark_next-requires-clause-pairs
mark_next-requires-clause-pairs g c =
    let pairs = c.in-Some.ensures.frame.pairs ∙ c.loop-pair.invariant.frame.pairs ∙ c.mark.ensures.change.frame.pairs ∙ c.over-search.ensures.begun.pairs in
    (ap (λ p. p.nodes) pairs ∙ c.from.ensures ∙ c.node_count.ensures, ap (λ p. p.labels) pairs ∙ ap length c.definitions.ensures)

pub mark_next-requires-clause-within : goal.mark_next-requires-clause-within
mark_next-requires-clause-within g c =
    let s = c.loop-pair.search in
    let o = c.in-Some.pair in
    let here = popped_found s c.pop.new.self o c.in-Some.ensures in
    subst (λ p. (o.node < p.nodes) × (o.label < p.labels)) (sym c.in-Some.ensures.frame.pairs) ((shown s.pairs.nodes s.pairs.labels s.marks.now o).0 here).0

pub loop-pair-smaller : goal.loop-pair-smaller
loop-pair-smaller g c =
    let less = c.mark_next.ensures.change.less in
    let popped = popped_less c.loop-pair.search c.pop.new.self c.in-Some.pair c.in-Some.ensures in
    omega arith

pub loop-pair-preserved : goal.loop-pair-preserved
loop-pair-preserved g c =
    let inv = c.loop-pair.invariant in
    let pop = c.in-Some.ensures in
    let step = c.mark_next.ensures.change in
    record {
      frame = frame_then _ _ _ inv.frame (frame_then _ _ _ pop.frame step.frame);
      searching = λ passes. searching_more _ _ _ _ _ _ _ c.in-Some.pair (inv.searching passes) pop step c.mark_next.ensures.made;
    }

pub returns-clause-clean : goal.returns-clause-clean
returns-clause-clean g c =
    let s = c.pop.new.self in
    let all : Frame c.over-search.result s = frame_then _ _ _ c.mark.ensures.change.frame (frame_then _ _ _ c.loop-pair.invariant.frame c.in_default.ensures.frame) in
    let lent = all.lent in
    said _ _ _ _ s c.over-search.ensures.begun all _ _ _ (c.from.ensures ∙ c.node_count.ensures) (ap length c.definitions.ensures) (search (rules, lent))
    (λ x y hs xs. Clean (x * y) xs) s.clean

pub returns-clause-rest : goal.returns-clause-rest
returns-clause-rest g c =
    let s = c.pop.new.self in
    let all : Frame c.over-search.result s = frame_then _ _ _ c.mark.ensures.change.frame (frame_then _ _ _ c.loop-pair.invariant.frame c.in_default.ensures.frame) in
    let lent = all.lent in
    said _ _ _ _ s c.over-search.ensures.begun all _ _ _ (c.from.ensures ∙ c.node_count.ensures) (ap length c.definitions.ensures) (search (rules, lent))
    (λ x y hs xs. drop (x * y) xs ≡ drop (x * y) c.args.marks.now) (still _ _ _ _ s c.over-search.ensures.begun all)

pub returns-clause-change : goal.returns-clause-change
returns-clause-change g c passes =
    let s = c.pop.new.self in
    let S = schema_in c.args.tables.now in
    let G = graph_of (g.S.Store.nodes c.args.store.now) (g.S.Store.arcs c.args.store.now) passes in
    let n = c.args.goal.node in
    let l = c.args.goal.label in
    let all : Frame c.over-search.result s = frame_then _ _ _ c.mark.ensures.change.frame (frame_then _ _ _ c.loop-pair.invariant.frame c.in_default.ensures.frame) in
    let lent = all.lent in
    said _ _ _ _ s c.over-search.ensures.begun all _ _ _ (c.from.ensures ∙ c.node_count.ensures) (ap length c.definitions.ensures) (search (rules, lent))
    (λ x y hs xs. Looked S G (byte_typing x y hs) n l (byte_typing x y xs)) (looked S G n l _ s (c.loop-pair.invariant.searching passes) c.in_default.ensures)
