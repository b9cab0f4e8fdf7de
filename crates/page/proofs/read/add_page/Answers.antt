use Rattle.std.proofs.Common.{◌≡◌, ℕ, ◌+◌, ◌-◌, ◌≤◌, List, length, take, drop, Err, sum, sym, refl, ap, ◌∙◌, subst, add-one, arith, rules}
use Rattle.std.proofs.lemmas.List.{length-take-le, length-drop}
use Rattle.std.proofs.lemmas.Result.{err_from_is_err_and}
use Rattle.std.proofs.lemmas.List.Sums.{sum_by_more, sum_by_more_le}
use Rattle.validate.proofs.Keeping.{keeps_none, keeps_then}
use Rattle.page.specs.Format.{of_node, triples_of}
use Rattle.page.specs.Loading.{Adds, none}
use Rattle.page.specs.Reading.{Outcome, rows}
use Rattle.page.proofs.Adding.{adds_append, outcome_after, length_triples, triples_split}
use Rattle.page.proofs.Rows.{row_is, rows_total}
use Rattle.page.proofs.read.add_page.Goals as goal

pub loop-node-init : goal.loop-node-init
loop-node-init g c = (refl, none, keeps_none _)

pub overflow_add-end : goal.overflow_add-end
overflow_add-end g c =
    let within = sum_by_more_le (λ x. x) c.args.fans.now c.loop-node.node 0 c.loop-node-test.true in
    omega (arith, within, c.loop-node.invariant.0, c.requires.properties)

pub slice_bounds-add_node-end : goal.slice_bounds-add_node-end
slice_bounds-add_node-end g c =
    let within = sum_by_more_le (λ x. x) c.args.fans.now c.loop-node.node 0 c.loop-node-test.true in
    let end : c.loop-node.at + c.from.result ≤ length c.args.properties.now = omega (arith, within, c.loop-node.invariant.0, c.requires.properties) in
    search rules

pub slice_bounds-add_node-end-in-loop-node : goal.slice_bounds-add_node-end-in-loop-node
slice_bounds-add_node-end-in-loop-node g c =
    let within = sum_by_more_le (λ x. x) c.args.fans.now c.loop-node.node 0 c.loop-node-test.true in
    let end : c.loop-node.at + c.from.result ≤ length c.args.objects.now = omega (arith, within, c.loop-node.invariant.0, c.requires.objects) in
    search rules

-- a cut that ends within a list is as long as it says
cut : (xs : List ℕ) (at f : ℕ) → at + f ≤ length xs → length (take (at + f - at) (drop at xs)) ≡ f
cut xs at f h = length-take-le (at + f - at) (drop at xs) (simp length-drop (omega arith)) ∙ omega arith

pub add_node-requires : goal.add_node-requires
add_node-requires g c =
    let at = c.loop-node.at in
    let f = c.from.result in
    let within = sum_by_more_le (λ x. x) c.args.fans.now c.loop-node.node 0 c.loop-node-test.true in
    let ps = cut c.args.properties.now at f (omega (arith, within, c.loop-node.invariant.0, c.requires.properties)) in
    let os = cut c.args.objects.now at f (omega (arith, within, c.loop-node.invariant.0, c.requires.objects)) in
    record { level = os ∙ sym ps; fits = omega (arith, ps, within, c.loop-node.invariant.0, c.requires.properties) }

pub returns-in_err-add_node : goal.returns-in_err-add_node
returns-in_err-add_node g c =
    let fans = c.args.fans.now in
    let ps = c.args.properties.now in
    let os = c.args.objects.now in
    let m = c.loop-node.node in
    let at = c.loop-node.at in
    let before = c.loop-node.invariant in
    let then = c.in_err-add_node.ensures in
    let p = err_from_is_err_and c.from_residual.result c.from_residual.ensures.1 in
    let row = row_is fans ps os m at (at + c.from.result - at) before.0 (omega arith) in
    let split = triples_split (length fans) m (rows fans ps os) c.loop-node-test.true in
    let from : at ≡ 0 + length (triples_of m (rows fans ps os)) = omega (arith, before.0, length_triples m (rows fans ps os), rows_total fans ps os c.requires.properties c.requires.objects m (omega arith)) in
    let stop = subst (λ arcs. Outcome (g.A.Validate.state c.loop-node.validator).ledger (of_node m arcs) at (g.A.Validate.state c.add_node.new.validator).ledger (Err c.in_err-add_node.field-0.0)) row then.step in
    rw (p.1, p.2)
    (record {
      step = outcome_after _ _ _ (triples_of (length fans) (rows fans ps os)) (triples_of m (rows fans ps os)) (of_node m (rows fans ps os m)) split.0 0 at c.in_err-add_node.field-0.0 split.1 from before.1 stop;
      kept = keeps_then _ _ _ before.2 then.kept;
    })

pub loop-node-preserved : goal.loop-node-preserved
loop-node-preserved g c =
    let fans = c.args.fans.now in
    let ps = c.args.properties.now in
    let os = c.args.objects.now in
    let m = c.loop-node.node in
    let at = c.loop-node.at in
    let before = c.loop-node.invariant in
    let then = c.in_ok-add_node.ensures in
    let row = row_is fans ps os m at (at + c.from.result - at) before.0 (omega arith) in
    let done = subst (λ arcs. Adds (g.A.Validate.state c.loop-node.validator).ledger (of_node m arcs) (g.A.Validate.state c.add_node.new.validator).ledger) row then.step in
    let counted : at + c.from.result ≡ sum (take (m + 1) fans) = ap (λ k. k + c.from.result) before.0 ∙ ap (λ k. sum (take m fans) + k) c.from.ensures ∙ sym (sum_by_more (λ x. x) fans m 0 c.loop-node-test.true) in (
      counted,
      simp add-one (adds_append before.1 done),
      keeps_then _ _ _ before.2 then.kept,
    )

pub returns : goal.returns
returns g c =
    let end : c.loop-node.node ≡ length c.args.fans.now = omega arith in
    record {
      step = subst (λ n. Adds (g.A.Validate.state c.args.validator.now).ledger (triples_of n (rows c.args.fans.now c.args.properties.now c.args.objects.now)) (g.A.Validate.state c.loop-node.validator).ledger) end c.loop-node.invariant.1;
      kept = c.loop-node.invariant.2;
    }
