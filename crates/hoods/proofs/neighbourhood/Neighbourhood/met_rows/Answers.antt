use Rattle.std.proofs.Common.{true, arith}
use Rattle.std.proofs.lemmas.List.{get_or-replicate}
use Rattle.hoods.proofs.neighbourhood.Neighbourhood.met_rows.Goals as goal

pub returns : goal.returns
returns c =
    let ensured = c.met_asked.ensures in
    λ p. (ensured.only p, λ m. ensured.asked p (get_or-replicate 128 p true _ (omega (arith, m.0, c.lawful.ensures.few_triples))) m)
