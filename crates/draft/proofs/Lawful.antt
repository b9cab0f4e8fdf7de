-- Tables that are not refused are lawful. Assumes nothing.
use Rattle.std.proofs.Common.{◌≡◌, ℕ, ◌<◌, Bool, true, false, cond, length, get_or, Some, None, Option, refl, sym, subst, zero-add}
use Rattle.std.proofs.lemmas.Bool.{leb-true, ltb-true}
use Rattle.std.proofs.lemmas.Option.{none-some}
use Rattle.draft.specs.Lawful.{AreLawful}
use Rattle.draft.specs.Refusals.{Told, first_from, definition_refusal, shape_refusal, triple_refusal, row_refusal}
use Rattle.draft.specs.declared.rows.ShapeRow.TheVariants.{Value}
use Rattle.draft.specs.declared.rows.TripleRow.TheVariants.{Empty}
use Rattle.draft.proofs.Known.{known}
use Rattle.draft.proofs.First.{none_of_two, first_none}

passed : (b : Bool) (x : Option Told) (t : Told) → cond b x (Some t) ≡ None → (b ≡ true) × (x ≡ None)
passed true x t e = (refl, e)
passed false x t e = absurd (none-some t (sym e))

each_row : {A : Type 0} (test : ℕ → A → Option Told) (xs : _) → first_from test 0 xs ≡ None
    → (r : ℕ) (d : A) → r < length xs → test r (get_or xs r d) ≡ None
each_row test xs e r d h = subst (λ n. test n (get_or xs r d) ≡ None) (zero-add r) (first_none test 0 xs e r d h)

pub are_lawful : AreLawful
unfolding row_refusal
are_lawful t e =
    let lengths = none_of_two _ _ e in
    let definitions = none_of_two _ _ lengths.1 in
    let rows = none_of_two _ _ definitions.1 in
    let labels = none_of_two _ _ lengths.0 in
    let shapes = none_of_two _ _ labels.1 in
    let triples = none_of_two _ _ shapes.1 in
    let triple : (r : ℕ) → r < length t.triples → triple_refusal (length t.sets) (length t.definitions) r (get_or t.triples r Empty) ≡ None
    = λ r h. each_row (triple_refusal (length t.sets) (length t.definitions)) t.triples rows.1 r Empty h in
    record {
      few_labels = leb-true _ _ (passed _ _ _ labels.0).0;
      few_shapes = leb-true _ _ (passed _ _ _ shapes.0).0;
      few_triples = leb-true _ _ (passed _ _ _ triples.0).0;
      few_sets = leb-true _ _ (passed _ _ _ triples.1).0;
      defined = λ l h. ltb-true _ _ (passed _ _ _ (each_row (definition_refusal (length t.shapes)) t.definitions definitions.0 l 0 h)).0;
      shape_rows = λ r h. (passed _ _ _ (each_row (shape_refusal (length t.triples)) t.shapes rows.0 r (Value 0) h)).0;
      triple_rows = λ r h. (passed _ _ _ (triple r h)).0;
      in_order = λ r h. (passed _ _ _ (passed _ _ _ (triple r h)).1).0;
      known = known t (λ r h. (passed _ _ _ (triple r h)).0);
    }
