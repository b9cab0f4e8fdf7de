use Rattle.std.proofs.Common.{◌≡◌, suc, ◌+◌, [], ◌∷◌, length, get_or, take, drop, sym, refl, ap, ◌∙◌, subst, arith}
use Rattle.std.proofs.lemmas.Result.{err_from_is_err_and}
use Rattle.validate.proofs.Keeping.{keeps_none, keeps_then}
use Rattle.page.specs.Format.{Spo, of_node}
use Rattle.page.specs.Loading.{Adds, none}
use Rattle.page.specs.Reading.{pairs}
use Rattle.page.proofs.Adding.{adds_append, outcome_after}
use Rattle.page.proofs.Rows.{drop_head, node_split, node_more, length_node}
use Rattle.page.proofs.read.add_node.Goals as goal

pub loop-i-init : goal.loop-i-init
loop-i-init g c =
    let made = c.into_iter-i-iterator.ensures.into_iter_gives in
    let begin : c.into_iter-i-iterator.result.count ≡ 0 = cc in
    let first : c.into_iter-i-iterator.result.iter.a.rest.now ≡ c.args.properties.now = cc in
    let second : c.into_iter-i-iterator.result.iter.b.rest.now ≡ c.args.objects.now = cc in
    rw (begin, first, second) (refl, refl, omega arith, none, keeps_none _)

pub loop-i-preserved : goal.loop-i-preserved
loop-i-preserved g c =
    let s = c.args.node in
    let ps = c.args.properties.now in
    let os = c.args.objects.now in
    let i = c.loop-i.i-iterator.count in
    let before = c.loop-i.invariant in
    let next = c.in-Some.ensures.steps in
    let then = c.in_ok-add_entry.ensures in
    let first = drop_head ps i c.in-Some.property.now c.next.new.self.iter.a.rest.now (sym next.0.0 ∙ before.0) in
    let second = drop_head os i c.in-Some.object.now c.next.new.self.iter.b.rest.now (sym next.0.1 ∙ before.1) in
    let entry : ◌≡◌ {A = Spo} (s, c.in-Some.property.now, c.from.result) (s, get_or ps i 0, get_or os i 0) = cc (first.1, second.1, c.from.ensures) in
    let done = subst (λ (t : Spo). Adds (g.A.Validate.state c.loop-i.validator).ledger (t ∷ []) (g.A.Validate.state c.add_entry.new.validator).ledger) entry then.step in
    let all = subst (λ ts. Adds (g.A.Validate.state c.args.validator.now).ledger ts (g.A.Validate.state c.add_entry.new.validator).ledger) (node_more s ps os i first.0 c.requires.level) (adds_append before.3 done) in
    rw next.2 (first.2, second.2, omega (arith, first.0), all, keeps_then _ _ _ before.4 then.kept)

pub returns-in_err-add_entry-clause-step : goal.returns-in_err-add_entry-clause-step
returns-in_err-add_entry-clause-step g c =
    let s = c.args.node in
    let ps = c.args.properties.now in
    let os = c.args.objects.now in
    let i = c.loop-i.i-iterator.count in
    let before = c.loop-i.invariant in
    let next = c.in-Some.ensures.steps in
    let then = c.in_err-add_entry.ensures in
    let first = drop_head ps i c.in-Some.property.now c.next.new.self.iter.a.rest.now (sym next.0.0 ∙ before.0) in
    let second = drop_head os i c.in-Some.object.now c.next.new.self.iter.b.rest.now (sym next.0.1 ∙ before.1) in
    let entry : ◌≡◌ {A = Spo} (s, c.in-Some.property.now, c.from.result) (s, get_or ps i 0, get_or os i 0) = cc (first.1, second.1, c.from.ensures) in
    let p = err_from_is_err_and c.from_residual.result c.from_residual.ensures.1 in
    let from : c.args.start + c.in-Some.i ≡ c.args.start + length (of_node s (pairs (take i ps) (take i os))) = ap (λ k. c.args.start + k) (next.1 ∙ sym (length_node s ps os i before.2 c.requires.level)) in
    rw (p.1, p.2)
    (outcome_after _ _ _ (of_node s (pairs ps os)) (of_node s (pairs (take i ps) (take i os))) ((s, c.in-Some.property.now, c.from.result) ∷ []) (of_node s (pairs (drop (suc i) ps) (drop (suc i) os)))
    c.args.start (c.args.start + c.in-Some.i) c.in_err-add_entry.field-0.0 (rw entry (node_split s ps os i first.0 c.requires.level)) from before.3 then.step)
