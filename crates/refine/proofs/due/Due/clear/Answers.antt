use Rattle.std.proofs.Common.{ℕ, ◌<◌, ◌&&◌, not, cond, eqb, get_or, ap, ◌∙◌, sym, arith, rules, tests}
use Rattle.std.specs.List.{slice_range}
use Rattle.refine.specs.Tables.{has_label}
use Rattle.refine.proofs.Writing.{written_at, written_some}
use Rattle.refine.proofs.Rows.{cleared_at}
use Rattle.refine.proofs.due.Due.clear.Goals as goal

pub returns : goal.returns
returns c =
    let d = c.args.self.now in
    let x = c.args.row.now in
    let r = c.row.result in
    let w = slice_range d.wanted.now r.start r.end in
    let is = λ (l : ℕ). eqb (get_or x l 0) 1 && ((eqb (get_or w l 0) 1 && eqb (get_or d.strata.now l 0) d.stratum) && not (has_label c.args.found.now l)) in
    let at = cleared_at d c.args.node c.requires.node_bound r.start r.end c.row.ensures.start c.row.ensures.end c.args.found.now x in
    let e = c.write_where.ensures in
    let y = c.write_where.new.items in
    record {
      bytes = λ l h. written_at _ 0 x is c.write_where.result y e (λ k b h t. search (rules, tests)) l (omega arith) ∙ ap (λ b. cond b 0 (get_or x l 0)) (at l h);
      same = e.same;
      some = λ any.
          let (l, inside, yes_is) = written_some _ 0 x is c.write_where.result y e (λ k b h t. search (rules, tests)) any in
          let h : l < d.labels = omega arith in
          (l, h, sym (at l h) ∙ yes_is);
    }
