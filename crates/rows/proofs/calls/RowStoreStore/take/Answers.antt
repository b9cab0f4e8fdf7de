use Rattle.std.proofs.Common.{◌<◌, min, length, set, refl, ap, arith}
use Rattle.std.proofs.lemmas.List.{length-set, drop-set-lt}
use Rattle.std.proofs.lemmas.Bool.{lt-leb}
use Rattle.triple.proofs.Refusals.{nodes_below}
use Rattle.triple.specs.Stores.{Lawful}
use Rattle.rows.specs.Table.{free, arcs_of}
use Rattle.rows.proofs.Gains.{Gains, gains_present, gains_removed, lawful_less}
use Rattle.rows.proofs.Tables.{take_gains, length_front, lawful_in, none_has}
use Rattle.rows.proofs.calls.RowStoreStore.take.Goals as goal
use Rattle.rows.proofs.calls.RowStoreStore.take.Goals.{In-Some}

-- what holds once the row of the triple is found

below : (c : In-Some) → c.in-Some.row < min (length c.args.self.now.rows.now) 1024
below c = omega (arith, c.in-Some.ensures.0, length_front c.args.self.now.rows.now)

loses : (c : In-Some) → Gains (arcs_of (set c.args.self.now.rows.now c.in-Some.row free)) (arcs_of c.args.self.now.rows.now) c.args.triple.subject c.args.triple.property c.args.triple.object
loses c = take_gains c.args.self.now.rows.now c.in-Some.row c.args.triple.subject c.args.triple.property c.args.triple.object c.in-Some.ensures.0 c.in-Some.ensures.1

after : (c : In-Some) → Lawful c.args.self.now.nodes (min (length c.args.self.now.rows.now) 1024) (arcs_of (set c.args.self.now.rows.now c.in-Some.row free))
after c = lawful_less _ _ c.args.triple.subject c.args.triple.property c.args.triple.object (loses c) _ _ (nodes_below c.args.self.now.nodes c.args.triple.subject c.args.triple.object c.in_ok-check_nodes.ensures).0 (lawful_in c.args.self.now)

pub offset_bounds-self-row : goal.offset_bounds-self-row
offset_bounds-self-row c = omega (arith, below (goal.at.offset_bounds-self-row c).In-Some)

pub bounds-self-row : goal.bounds-self-row
bounds-self-row c = omega (arith, below (goal.at.bounds-self-row c).In-Some)

pub invariant_of-self : goal.invariant_of-self
invariant_of-self c =
    let a = after (goal.at.invariant_of-self c).In-Some in
    let size = length-set c.args.self.now.rows.now c.in-Some.row free in
    record { small = a.small; few = a.few; apart = a.apart; within = a.within; past = λ n h. ap length (a.past n h); room = omega (arith, size, a.room) }

pub returns : goal.returns
returns c =
    let at = (goal.at.returns c).In-Some in
    let rows = c.args.self.now.rows.now in
    let t = c.args.triple in
    let nodes = nodes_below c.args.self.now.nodes t.subject t.object c.in_ok-check_nodes.ensures in
    record {
      answer = simp (lt-leb _ _ nodes.0, lt-leb _ _ nodes.1, gains_present _ _ t.subject t.property t.object (loses at)) refl;
      change = gains_removed _ _ t.subject t.property t.object (loses at) (c.args.self.now.apart t.subject);
      kept = (refl, ap (λ n. min n 1024) (length-set rows c.in-Some.row free));
      held = refl;
      same = drop-set-lt 1024 rows c.in-Some.row free (omega (arith, below at));
    }

pub returns-in_default : goal.returns-in_default
returns-in_default c =
    let t = c.args.triple in
    let nodes = nodes_below c.args.self.now.nodes t.subject t.object c.in_ok-check_nodes.ensures in
    record { answer = simp (lt-leb _ _ nodes.0, lt-leb _ _ nodes.1, none_has _ t.subject t.property t.object c.in_default.ensures) refl; change = refl; kept = (refl, refl); held = refl; same = refl }
