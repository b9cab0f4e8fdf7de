use Rattle.std.proofs.Common.{◌≡◌, ℕ, ◌<◌, true, false, ◌&&◌, ◌≢◌, [], length, get_or, sym, ap, ◌∙◌, arith, get_or-set_other, get_or-set_same, below_more}
use Rattle.draft.specs.Sets.{in_set, no_properties}
use Rattle.draft.specs.declared.set.PropertySet.{PropertySet}
use Rattle.tables.specs.Held.{held}
use Rattle.hoods.specs.Typings.{typed}
use Rattle.std.proofs.lemmas.List.{get_or-take}
use Rattle.hoods.specs.Arcs.{arcs_of}
use Rattle.hoods.proofs.Copies.{length_arcs, same_default}
use Rattle.hoods.proofs.neighbourhood.Neighbourhood.admit.Goals as goal
use Rattle.hoods.proofs.neighbourhood.Neighbourhood.admit.Goals.{then-contains, else-contains}

pub loop-j-preserved : goal.loop-j-preserved
loop-j-preserved c =
    let arc = get_or (arcs_of c.args.self.now.arcs.now) c.loop-j.j (0, 0) in
    let has = typed (length c.definitions-labels.result.now) c.args.self.now.typing.now arc.1 c.args.label in
    let properties : PropertySet = get_or c.sets.result.now c.from.result (record { words = [] }) in
    let in_it = in_set properties arc.0 in
    let here : c.if-contains.admitted ≡ (in_it && has) =
    elim c.if-contains.branch [
      | then-contains w ↦ (let e : in_it ≡ true = sym c.contains.ensures ∙ w.if-contains.true in
          w.admitted-is ∙ w.has_label.ensures ∙ sym (ap (λ b. b && has) e))
      | else-contains w ↦ (let e : in_it ≡ false = sym c.contains.ensures ∙ w.if-contains.false in
          w.admitted-is ∙ w.if-contains.false ∙ sym (ap (λ b. b && has) e))
    ] in
    below_more _ _
    (λ k h. let ne : k ≢ c.loop-j.j = omega arith in rw get_or-set_other (c.loop-j.invariant k h))
    (let lt : c.loop-j.j < length c.loop-j.admitted = omega arith in rw get_or-set_same here)

pub returns : goal.returns
returns c = λ j h.
    let t = held c.args.self.now.tables.now in
    let arc = get_or c.args.self.now.arcs.now.arcs j (0, 0) in
    let properties : PropertySet = get_or c.sets.result.now c.from.result (record { words = [] }) in
    let same : properties ≡ get_or t.sets c.args.set no_properties =
    ap (λ i. get_or c.sets.result.now i (record { words = [] })) c.from.ensures
    ∙ ap (λ s. get_or s c.args.set (record { words = [] })) c.sets.ensures
    ∙ same_default t.sets c.args.set (record { words = [] }) no_properties c.requires in
    let read = get_or-take c.args.self.now.arcs.now.fan.value c.args.self.now.arcs.now.arcs j (0, 0) h in
    c.loop-j.invariant j (omega (arith, h, length_arcs c.args.self.now.arcs.now))
    ∙ ap (λ (z : ℕ × ℕ). in_set properties z.0 && typed (length c.definitions-labels.result.now) c.args.self.now.typing.now z.1 c.args.label) read
    ∙ ap (λ s. in_set s arc.0 && typed (length c.definitions-labels.result.now) c.args.self.now.typing.now arc.1 c.args.label) same
    ∙ ap (λ d. in_set (get_or t.sets c.args.set no_properties) arc.0 && typed (length d) c.args.self.now.typing.now arc.1 c.args.label) c.definitions-labels.ensures
