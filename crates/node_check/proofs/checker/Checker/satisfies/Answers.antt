use Rattle.std.proofs.Common.{◌<◌, true, false, length, set, replicate, sym, subst, arith, get_or-set_same}
use lib.ListN.{length-replicate}
use Rattle.masks.specs.Masks.{On}
use Rattle.node_check.proofs.checker.Checker.satisfies.Goals as goal

pub returns : goal.returns
returns g c =
    let label = c.args.label in
    let few : label < length (replicate 32 false) = omega (arith, length-replicate 32 false) in
    let wanted : On (set (replicate 32 false) c.from.result true) label =
    subst (λ k. On (set (replicate 32 false) k true) label) (sym c.from.ensures) (get_or-set_same (replicate 32 false) label true false few) in
    let all = c.answers_of-answers.ensures.answers label in
    record {
      answer = (
        λ o. (all.0 (subst (λ k. On c.answers_of-answers.result k) c.from-2.ensures o)).1,
        λ x. subst (λ k. On c.answers_of-answers.result k) (sym c.from-2.ensures) (all.1 (wanted, x)),
      );
      kept = c.answers_of-answers.ensures.kept;
    }
