use Rattle.std.proofs.Common.{◌≡◌, true, false, rules, tests}
use Rattle.std.proofs.lemmas.Iterator.{first_from_Range}
use Rattle.references.specs.Cycles.{leads_back}
use Rattle.references.proofs.Chains.{lowest}
use Rattle.references.proofs.cycle.back_to.Goals as goal

pub returns : goal.returns
returns c =
    let f = leads_back c.args.labels c.args.reach.now c.args.l in
    lowest c.find.result f
    (first_from_Range _ _ _ c.find.result (λ k. f k ≡ true) (λ k. f k ≡ false) c.find.ensures.ran (λ x q k. search (rules, tests)) (λ x q k. search (rules, tests)))
