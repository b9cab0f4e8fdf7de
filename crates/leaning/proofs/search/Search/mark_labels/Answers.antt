use Rattle.std.proofs.Common.{◌≡◌, ℕ, ◌+◌, ◌<◌, true, sym, ap, ◌∙◌, subst, ⊎_elim, arith}
use Rattle.std.proofs.lemmas.Bool.{cases_eq, both_ways}
use Rattle.stack.specs.declared.Goal.{Goal}
use Rattle.labels.specs.Members.{member}
use Rattle.leaning.specs.Marking.{Grown, Covered}
use Rattle.leaning.specs.declared.search.Search.{Search}
use Rattle.leaning.proofs.Marking.{grown_none, grown_then, grown_like, covered_kept}
use Rattle.leaning.proofs.search.Search.mark_labels.Goals as goal
use Rattle.leaning.proofs.search.Search.mark_labels.Goals.{then-contains, else-contains}

pub loop-label-init : goal.loop-label-init
loop-label-init c = record { grown = grown_none _ _; made = λ k h m. absurd (omega arith) }

pub mark-requires : goal.mark-requires
mark-requires c = let same = c.loop-label.invariant.grown.frame.pairs in subst (λ p. (c.args.object < p.nodes) × (c.loop-label.label < p.labels)) (sym same) (c.requires, c.loop-label-test.true)

pub loop-label-preserved : goal.loop-label-preserved
loop-label-preserved c =
    let a = c.args.self.now in
    let o = c.args.object in
    let s = c.args.labels in
    let l = c.loop-label.label in
    let inv = c.loop-label.invariant in
    let W : Goal → Type 0 = λ g. (g.node ≡ o) × (member s g.label ≡ true) in
    let P : Search → Type 0 = λ x.
    record { grown : Grown W a x; made : (k : ℕ) → k < l + 1 → member s k ≡ true → Covered x (record { node = o; label = k }) } in
    elim c.if-contains.branch [
      | then-contains w ↦
          let step = w.mark.ensures.change in
          let has : member s l ≡ true = sym w.if-contains.ensures in
          subst P (sym w.self-is) (record {
            grown = grown_then W _ _ _ inv.grown (grown_like _ W _ _ (λ g e. (ap (λ x. x.node) e, ap (λ x. member s x.label) e ∙ has)) step);
            made = λ k h m. ⊎_elim
                (λ (e : k ≡ l). subst (λ j. Covered w.mark.new.self (record { node = o; label = j })) (sym e) w.mark.ensures.made)
                (λ (ne : k ≡ l → ⊥). covered_kept _ _ step.frame _ (inv.made k (omega arith) m)) (cases_eq k l);
          })
      | else-contains w ↦
          subst P (sym w.self-is) (record {
            grown = inv.grown;
            made = λ k h m. ⊎_elim
                (λ (e : k ≡ l). absurd (both_ways _ (sym w.if-contains.ensures) (ap (member s) (sym e) ∙ m)))
                (λ (ne : k ≡ l → ⊥). inv.made k (omega arith) m) (cases_eq k l);
          })
    ]
