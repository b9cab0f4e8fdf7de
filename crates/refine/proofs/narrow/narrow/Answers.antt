use Rattle.std.proofs.Common.{◌≡◌, ◌<◌, true, false, get_or, replicate, refl, ◌∙◌, arith}
use Rattle.std.proofs.lemmas.List.{get_or-replicate}
use Rattle.std.proofs.lemmas.Bool.{both_ways}
use Rattle.refine.proofs.Steps.{narrowed_refl, narrowed_trans}
use Rattle.refine.proofs.narrow.narrow.Goals as goal

pub loop-marks-init : goal.loop-marks-init
loop-marks-init g c = (
  refl,
  refl,
  narrowed_refl (g.C.NodeCheck.schema c.args.check.now) (g.C.NodeCheck.graph c.args.check.now) c.args.due.now c.args.typing.now,
  λ n l hn hl m. let small : n < 256 = omega (arith, c.args.due.now.few_nodes) in absurd (both_ways (get_or (replicate 256 true) n false) m (get_or-replicate 256 n true false small)),
)

pub loop-marks-preserved : goal.loop-marks-preserved
loop-marks-preserved g c =
    let S = g.C.NodeCheck.schema c.args.check.now in
    let G = g.C.NodeCheck.graph c.args.check.now in
    let l = c.loop-marks in
    let e : g.C.NodeCheck.schema l.check ≡ S = l.invariant.0 in
    let f : g.C.NodeCheck.graph l.check ≡ G = l.invariant.1 in
    let k = c.narrow_marked.ensures in
    let passed = rw (e, f) at k.change in
    (k.kept.0 ∙ e, k.kept.1 ∙ f, narrowed_trans S G c.args.due.now c.args.typing.now l.typing c.narrow_marked.new.typing l.invariant.2 passed.change, passed.after l.invariant.3)

pub returns : goal.returns
returns g c =
    let S = g.C.NodeCheck.schema c.args.check.now in
    let G = g.C.NodeCheck.graph c.args.check.now in
    let l = c.loop-marks in
    let e : g.C.NodeCheck.schema l.check ≡ S = l.invariant.0 in
    let f : g.C.NodeCheck.graph l.check ≡ G = l.invariant.1 in
    let k = c.narrow_marked.ensures in
    let passed = rw (e, f) at k.change in
    record {
      kept = (k.kept.0 ∙ e, k.kept.1 ∙ f);
      change = narrowed_trans S G c.args.due.now c.args.typing.now l.typing c.narrow_marked.new.typing l.invariant.2 passed.change;
      after = λ n m hn hm d a. passed.after l.invariant.3 n m hn hm ((passed.same c.loop-marks-test.false).1 n hn) d a;
    }
