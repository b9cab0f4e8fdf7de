use Rattle.std.proofs.Common.{ℕ, ◌≤◌, length, get_or, refl, rules, tests, arith}
use Rattle.std.proofs.lemmas.Iterator.{cases_from_all, YieldsList-from_slice, YieldsList-from_zip}
use Rattle.labels.specs.Members.{member}
use Rattle.labels.specs.Rows.{no_labels}
use Rattle.labels.specs.declared.mentions.RowLabels.{RowLabels}
use Rattle.references.specs.Strata.{Above}
use Rattle.references.proofs.Chains.{all_pairs}
use Rattle.references.proofs.strata.are_placed.Goals as goal

pub returns : goal.returns
returns c =
    let xs = c.args.strata.now in
    let P : RowLabels × ℕ → Type 0 = λ p. (1 ≤ p.1) × (p.1 ≤ 32) × Above p.1 (member p.0.mentioned) (member p.0.negated) xs (length xs) in
    let first = YieldsList-from_slice {s = c.zip.result.a} c.args.references.now (search rules) in
    let second = YieldsList-from_slice {s = c.zip.result.b} xs (search rules) in
    all_pairs c.all.result P c.args.references.now xs no_labels 0 (λ k. get_or c.args.references.now k no_labels) (omega (arith, c.requires, c.told-references)) (λ k h. refl)
    (cases_from_all c.all.new.self _ c.all.result P (λ p. P p → ⊥) c.all.ensures.ran (YieldsList-from_zip {s = c.zip.result} first second)
    (λ x q k. search (rules, tests)) (λ x q k. search (rules, tests)))
