use Rattle.std.proofs.Common.{ℕ, ◌∙◌, rules, tests, arith}
use Rattle.std.specs.List.{range_with_len}
use Rattle.std.proofs.lemmas.Iterator.{cases_from_all, YieldsList-from_range, YieldsList-from_slice, YieldsList-from_zip}
use Rattle.std.proofs.lemmas.List.FromFn.{get_or-range_with_len}
use Rattle.labels.specs.Members.{member}
use Rattle.references.specs.Strata.{Keeps}
use Rattle.references.proofs.Chains.{all_pairs}
use Rattle.references.proofs.strata.is_above.Goals as goal

pub returns : goal.returns
returns c =
    let P : ℕ × ℕ → Type 0 = λ p. Keeps c.args.stratum (member c.args.labels.mentioned p.0) (member c.args.labels.negated p.0) p.1 in
    let range = YieldsList-from_range {s = c.zip.result.a} 0 32 32 (search rules) (omega arith) in
    let slice = YieldsList-from_slice {s = c.zip.result.b} c.args.strata.now (search rules) in
    all_pairs c.all.result P (range_with_len 0 32) c.args.strata.now 0 0 (λ k. k) c.requires (λ k h. get_or-range_with_len 0 32 k 0 h ∙ (omega arith))
    (cases_from_all c.all.new.self _ c.all.result P (λ p. P p → ⊥) c.all.ensures.ran (YieldsList-from_zip {s = c.zip.result} range slice)
    (λ x q k. search (rules, tests)) (λ x q k. search (rules, tests)))
