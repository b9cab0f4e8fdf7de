use Rattle.std.proofs.Common.{◌≡◌, ℕ, ◌-◌, ◌<◌, ◌≤◌, length, get_or, take, ap, ◌∙◌, arith, length-take-le, get_or-take}
use Rattle.std.proofs.lemmas.Bool.{false≢true}
use Rattle.draft.specs.Tables.{schema_of}
use Rattle.tables.specs.Held.{held}
use Rattle.references.proofs.Drawing.{drawn}
use Rattle.references.proofs.Placing.{too_few, placed_strata, strata_placed}
use Rattle.references.proofs.strata.stratifies.Goals as goal

pub returns-then-strata-labels : goal.returns-then-strata-labels
returns-then-strata-labels c =
    let n : length c.definitions-labels.result.now ≡ length (held c.args.tables.now).definitions = ap length c.definitions-labels.ensures in
    (λ e. absurd (false≢true e), λ st. absurd (too_few (schema_of (held c.args.tables.now)) c.args.strata.now (omega arith) st))

pub returns : goal.returns
returns c =
    let S = schema_of (held c.args.tables.now) in
    let bytes = c.args.strata.now in
    let count : ℕ = length c.definitions-labels.result.now - 0 in
    let n : length c.definitions-labels.result.now ≡ S.labels = ap length c.definitions-labels.ensures in
    let enough : count ≤ length bytes = omega arith in
    let long : length (take count bytes) ≡ S.labels = length-take-le count bytes enough ∙ (omega arith) in
    let same : (l : ℕ) → l < S.labels → get_or (take count bytes) l 0 ≡ get_or bytes l 0 = λ l h. get_or-take count bytes l 0 (omega arith) in
    let rs = c.labels_of_definitions-references.result in
    let d = drawn S rs c.labels_of_definitions-references.ensures.mentioned c.labels_of_definitions-references.ensures.negated in
    let law = c.lawful.ensures in (
      λ e. placed_strata S rs d law.known (take count bytes) bytes long same (c.are_placed.ensures.0 e),
      λ st. c.are_placed.ensures.1 (strata_placed S rs d law.known (take count bytes) bytes long same st),
    )
