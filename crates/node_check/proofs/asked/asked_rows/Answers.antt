use Rattle.std.proofs.Common.{ℕ, ◌<◌, length, get_or, subst, arith}
use Rattle.draft.specs.declared.rows.ShapeRow.TheVariants.{Value}
use Rattle.tables.specs.Held.{held}
use Rattle.masks.specs.Masks.{On}
use Rattle.draft.specs.Named.{NamesShape as Names}
use Rattle.node_check.specs.Named.{Hoods}
use Rattle.node_check.proofs.Naming.{leads_below, leads_flagged}
use Rattle.node_check.proofs.asked.asked_rows.Goals as goal

pub returns : goal.returns
returns c e (l, r, h, w, way, k) =
    let t = held c.args.tables.now in
    let law = c.lawful.ensures in
    let inv = c.loop-r.invariant in
    let shapes = c.loop-r.shapes in
    let d = get_or t.definitions l 0 in
    let whole = subst (λ rows. (r p : ℕ) → r < length rows → On shapes r → Names (get_or rows r (Value 0)) p → On shapes p) c.shapes-rows.ensures (λ r p. inv.1 r p (omega arith)) in
    let hoods = subst (λ rows. (r e : ℕ) → r < length rows → On shapes r → Hoods (get_or rows r (Value 0)) e → On c.loop-r.triples e) c.shapes-rows.ensures (λ r e. inv.2 r e (omega arith)) in
    let there = leads_below (length t.triples) t.shapes law.shape_rows d (law.defined l h) way in
    hoods r e there (leads_flagged (length t.triples) t.shapes law.shape_rows d (law.defined l h) shapes whole (inv.0 l h w) way) k
