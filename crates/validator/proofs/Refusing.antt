-- What the calls refuse, from the tests that they make. Assumes nothing.
use Rattle.std.proofs.Common.{◌≡◌, ℕ, ◌<◌, ◌≤◌, true, false, leb, Some, None, Err, Result, refl, ap, ◌∙◌, ⊎_elim, arith}
use Rattle.std.proofs.lemmas.Bool.{le-leb, lt-leb, leb-false, cases_Bool}
use Rattle.refusal.specs.declared.Layer.TheVariants.{Validator}
use Rattle.refusal.specs.declared.Layer.TheVariants.{Store as Store-layer}
use Rattle.triple.specs.Faults as store
use Rattle.triple.specs.Stores.{Lists, put_refusal, take_refusal}
use Rattle.triple.specs.declared.fault.StoreFault.{StoreFault}
use Rattle.shapes.specs.Expr.{Schema}
use Rattle.ledger.specs.Ledger.{Ledger, add_refusal, pair_refusal}
use Rattle.validate.specs.Faults.{code, told}
use Rattle.validate.specs.declared.fault.ValidatorFault.{ValidatorFault}
use Rattle.validate.specs.declared.fault.ValidatorFault.TheVariants.{Store}

module _ (b : Ledger) (s p o : ℕ) where
  pub add_no_subject : b.nodes ≤ s → add_refusal b s p o ≡ Some (Validator, 7)
  add_no_subject h = rw (le-leb b.nodes s h) refl

  pub add_no_object : s < b.nodes → b.nodes ≤ o → add_refusal b s p o ≡ Some (Validator, 8)
  add_no_object h k = rw (lt-leb b.nodes s h, le-leb b.nodes o k) refl

  pub add_literal : s < b.nodes → o < b.nodes → b.literals s ≡ true → add_refusal b s p o ≡ Some (Validator, 9)
  add_literal h k e = rw (lt-leb b.nodes s h, lt-leb b.nodes o k, e) refl

  -- past its own rules, add refuses as put does
  pub add_as_put : s < b.nodes → o < b.nodes → b.literals s ≡ false → add_refusal b s p o ≡ put_refusal b.nodes b.capacity b.arcs s p o
  add_as_put h k e = rw (lt-leb b.nodes s h, lt-leb b.nodes o k, e) refl

-- a take that is not refused has a node for its subject
pub taken_node : (nodes : ℕ) (arcs : Lists) (s p o : ℕ) → None ≡ take_refusal nodes arcs s p o → s < nodes
taken_node nodes arcs s p o e =
    ⊎_elim
    (λ (h : leb nodes s ≡ true). let some : take_refusal nodes arcs s p o ≡ Some (Store-layer, 7) = rw h refl in let z : ◌≡◌ {A = ℕ} 0 1 = cc in absurd (omega arith))
    (λ (h : leb nodes s ≡ false). leb-false nodes s h)
    (cases_Bool (leb nodes s))

module _ (S : Schema) (b : Ledger) (n l : ℕ) where
  pub pair_no_node : b.nodes ≤ n → pair_refusal S b n l ≡ Some (Validator, 7)
  pair_no_node h = rw (le-leb b.nodes n h) refl

  pub pair_no_label : n < b.nodes → S.labels ≤ l → pair_refusal S b n l ≡ Some (Validator, 14)
  pair_no_label h k = rw (lt-leb b.nodes n h, le-leb S.labels l k) refl

  pub pair_fine : n < b.nodes → l < S.labels → pair_refusal S b n l ≡ None
  pair_fine h k = rw (lt-leb b.nodes n h, lt-leb S.labels l k) refl

-- the fault of a store, carried
pub told_store : {A : Type 0} (r : Result A ValidatorFault) (y : ValidatorFault) (f : StoreFault) → r ≡ Err y → y ≡ Store f → told r ≡ Err (store.code f)
told_store r y f h k = ap told h ∙ ap (λ z. Err (code z)) k
