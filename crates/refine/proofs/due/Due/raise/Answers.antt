use Rattle.std.proofs.Common.{◌*◌, ◌%◌, ◌&&◌, eqb, get_or, arith, rules, tests}
use Rattle.std.proofs.lemmas.List.{length-take-le}
use Rattle.refine.proofs.Writing.{prefix_written}
use Rattle.refine.proofs.due.Due.raise.Goals as goal

pub returns : goal.returns
returns c =
    let d = c.args.self.now in
    prefix_written _ 1 c.args.typing.now c.write_where.new.items (d.nodes * d.labels) c.write_where.result
    (λ k. eqb (get_or d.wanted.now k 0) 1 && eqb (get_or d.strata.now (k % d.labels) 0) d.stratum) c.requires (omega (arith, length-take-le (d.nodes * d.labels) c.args.typing.now c.requires)) c.write_where.ensures (λ k b h t. search (rules, tests))
