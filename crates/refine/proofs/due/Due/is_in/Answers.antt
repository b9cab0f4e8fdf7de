use Rattle.std.proofs.Common.{rules, tests}
use Rattle.std.specs.List.{slice_range}
use Rattle.std.proofs.lemmas.Iterator.{YieldsList-from_slice, YieldsList-from_zip, cases_from_any}
use Rattle.refine.proofs.Rows.{IsDue, decides_row}
use Rattle.refine.proofs.due.Due.is_in.Goals as goal

pub returns : goal.returns
returns c =
    let d = c.args.self.now in
    let r = c.row.result in
    let Is = IsDue d c.args.node c.requires r.start r.end c.row.ensures.start c.row.ensures.end in
    decides_row d c.args.node c.requires r.start r.end c.row.ensures.start c.row.ensures.end c.any.result c.args.row.now (
    cases_from_any {s = c.zip-2.result} c.any.new.self _ _ Is (λ p. ¬ Is p) c.any.ensures.ran
    (YieldsList-from_zip (YieldsList-from_zip (YieldsList-from_slice c.args.row.now (cc)) (YieldsList-from_slice (slice_range d.wanted.now r.start r.end) (cc))) (YieldsList-from_slice d.strata.now (cc)))
    (λ x q k. search (rules, tests)) (λ x q k. search (rules, tests)))
