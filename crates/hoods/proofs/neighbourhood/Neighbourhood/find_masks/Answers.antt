use Rattle.std.proofs.Common.{◌≡◌, true, false, ◌&&◌, length, get_or, sym, subst, arith}
use Rattle.std.proofs.lemmas.List.{get_or-take}
use Rattle.shapes.specs.Typing.{In}
use Rattle.draft.specs.Refusals.{triple_names, ordered}
use Rattle.draft.specs.Rows.{triple_node}
use Rattle.draft.specs.Tables.{schema_of}
use Rattle.tables.specs.Held.{held}
use Rattle.hoods.specs.Arcs.{arcs_of}
use Rattle.hoods.specs.Typings.{typed}
use Rattle.hoods.specs.Words.{Tells}
use Rattle.hoods.proofs.Copies.{length_arcs}
use Rattle.hoods.proofs.Filling.{tells_empty, tells_arc, tells_each, tells_some, tells_times}
use Rattle.hoods.proofs.neighbourhood.Neighbourhood.find_masks.Goals as goal

pub returns-in-Empty : goal.returns-in-Empty
returns-in-Empty c = λ f q names order told.
    let sets = (schema_of (held c.args.self.now.tables.now)).sets in
    let τ = typed (length (held c.args.self.now.tables.now).definitions) c.args.self.now.typing.now in
    let arcs = c.args.self.now.arcs.now in
    let n = arcs.fan.value in
    subst (λ r. Tells sets (In τ) (arcs_of arcs) (triple_node f r) c.empty.new.c) (sym c.in-Empty.is)
    (tells_empty sets τ (arcs_of arcs) n (length_arcs arcs) f q c.args.words.now told c.empty.new.c c.empty.ensures)

pub returns-in-Arc : goal.returns-in-Arc
returns-in-Arc c = λ f q names order told.
    let sets = (schema_of (held c.args.self.now.tables.now)).sets in
    let τ = typed (length (held c.args.self.now.tables.now).definitions) c.args.self.now.typing.now in
    let arcs = c.args.self.now.arcs.now in
    let n = arcs.fan.value in
    subst (λ r. Tells sets (In τ) (arcs_of arcs) (triple_node f r) c.single.new.c) (sym c.in-Arc.is)
    (tells_arc sets τ (arcs_of arcs) n (length_arcs arcs) f q c.args.words.now told c.in-Arc.set c.in-Arc.label c.admit.new.admitted c.single.new.c (omega arith)
    (λ j h. subst (λ z. get_or c.admit.new.admitted j false ≡ (sets c.in-Arc.set z.0 && τ z.1 c.in-Arc.label))
    (sym (get_or-take n arcs.arcs j (0, 0) h)) (c.admit.ensures j h)) c.single.ensures)

pub returns-in-Each : goal.returns-in-Each
returns-in-Each c = λ f q names order told.
    let sets = (schema_of (held c.args.self.now.tables.now)).sets in
    let τ = typed (length (held c.args.self.now.tables.now).definitions) c.args.self.now.typing.now in
    let arcs = c.args.self.now.arcs.now in
    let n = arcs.fan.value in
    let named = subst (λ r. triple_names (length (held c.args.self.now.tables.now).sets) (length (held c.args.self.now.tables.now).definitions) q r ≡ true) c.in-Each.is names in
    subst (λ r. Tells sets (In τ) (arcs_of arcs) (triple_node f r) c.each.new.c) (sym c.in-Each.is)
    (tells_each sets τ (arcs_of arcs) n (length_arcs arcs) f q c.args.words.now told c.in-Each.x c.in-Each.y c.unpack.new.c c.unpack-in-Each.new.c c.each.new.c named
    c.unpack.ensures c.unpack-in-Each.ensures c.each.ensures)

pub returns-in-Some : goal.returns-in-Some
returns-in-Some c = λ f q names order told.
    let sets = (schema_of (held c.args.self.now.tables.now)).sets in
    let τ = typed (length (held c.args.self.now.tables.now).definitions) c.args.self.now.typing.now in
    let arcs = c.args.self.now.arcs.now in
    let n = arcs.fan.value in
    let named = subst (λ r. triple_names (length (held c.args.self.now.tables.now).sets) (length (held c.args.self.now.tables.now).definitions) q r ≡ true) c.in-Some.is names in
    subst (λ r. Tells sets (In τ) (arcs_of arcs) (triple_node f r) c.some.new.c) (sym c.in-Some.is)
    (tells_some sets τ (arcs_of arcs) n (length_arcs arcs) f q c.args.words.now told c.in-Some.x c.in-Some.y c.unpack-in-Some.new.c c.unpack-in-Some-2.new.c c.some.new.c named
    c.unpack-in-Some.ensures c.unpack-in-Some-2.ensures c.some.ensures)

pub returns-in-Times : goal.returns-in-Times
returns-in-Times c = λ f q names order told.
    let sets = (schema_of (held c.args.self.now.tables.now)).sets in
    let τ = typed (length (held c.args.self.now.tables.now).definitions) c.args.self.now.typing.now in
    let arcs = c.args.self.now.arcs.now in
    let n = arcs.fan.value in
    let named = subst (λ r. triple_names (length (held c.args.self.now.tables.now).sets) (length (held c.args.self.now.tables.now).definitions) q r ≡ true) c.in-Times.is names in
    let least_first = subst (λ r. ordered r ≡ true) c.in-Times.is order in
    subst (λ r. Tells sets (In τ) (arcs_of arcs) (triple_node f r) c.times.new.c) (sym c.in-Times.is)
    (tells_times sets τ (arcs_of arcs) n (length_arcs arcs) f q c.args.words.now told c.in-Times.x c.in-Times.least c.in-Times.most c.unpack-in-Times.new.c c.times.new.c named least_first
    c.unpack-in-Times.ensures c.times.ensures)
