use Rattle.std.proofs.Common.{true, false, arith}
use lib.ListN.{get_or-replicate}
use Rattle.node_check.proofs.checker.Checker.satisfied.Goals as goal

pub returns : goal.returns
returns g c =
    record {
      answers = λ l.
          (let all = c.answers_of.ensures.answers l in
          (λ o. (all.0 o).1, λ x. all.1 (get_or-replicate 32 l true false (omega (arith, x.1, c.lawful.ensures.few_labels)), x)));
      kept = c.answers_of.ensures.kept;
    }
