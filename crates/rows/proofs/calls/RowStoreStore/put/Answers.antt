use Rattle.std.proofs.Common.{◌≡◌, ◌<◌, min, length, take, set, sym, refl, ap, ◌∙◌, true≢false, arith}
use Rattle.std.proofs.lemmas.List.{length-set, drop-set-lt}
use Rattle.std.proofs.lemmas.Bool.{lt-leb, eq-eqb, ne_eqb}
use Rattle.triple.proofs.Refusals.{nodes_below}
use Rattle.triple.specs.Stores.{Lawful, total}
use Rattle.rows.specs.Table.{full, arcs_of}
use Rattle.rows.proofs.Gains.{Gains, gains_added, lawful_more}
use Rattle.rows.proofs.Tables.{put_gains, length_front, lawful_in, used_total, used_below, none_free}
use Rattle.rows.proofs.calls.RowStoreStore.put.Goals as goal
use Rattle.rows.proofs.calls.RowStoreStore.put.Goals.{In-Some}

pub returns-in_default : goal.returns-in_default
returns-in_default c =
    let m = c.args.self.now in
    let nodes = nodes_below c.args.self.now.nodes c.args.triple.subject c.args.triple.object c.in_ok-check_nodes.ensures in
    let absent = sym c.is_present.ensures ∙ c.if-is_present.false in
    let unfilled = sym c.is_node_full.ensures ∙ c.if-is_node_full.false in
    let full_store = eq-eqb _ _ (sym (used_total m.nodes (take 1024 m.rows.now) m.past) ∙ none_free _ c.in_default.ensures ∙ length_front m.rows.now) in
    record { answer = simp (lt-leb _ _ nodes.0, lt-leb _ _ nodes.1, absent, unfilled, full_store) refl; change = refl; kept = (refl, refl); held = refl; same = refl }

-- what holds once a free row is found

below : (c : In-Some) → c.in-Some.row < min (length c.args.self.now.rows.now) 1024
below c = omega (arith, c.in-Some.ensures.0, length_front c.args.self.now.rows.now)

vacant : (c : In-Some) → total c.args.self.now.nodes (arcs_of c.args.self.now.rows.now) ≡ min (length c.args.self.now.rows.now) 1024 → ⊥
vacant c e =
    let m = c.args.self.now in
    let fewer = used_below (take 1024 m.rows.now) c.in-Some.row c.in-Some.ensures.0 c.in-Some.ensures.1 in
    omega (arith, e, fewer, used_total m.nodes (take 1024 m.rows.now) m.past, length_front m.rows.now)

gains : (c : In-Some) → Gains (arcs_of c.args.self.now.rows.now) (arcs_of (set c.args.self.now.rows.now c.in-Some.row (full c.args.triple.subject c.args.triple.property c.args.triple.object))) c.args.triple.subject c.args.triple.property c.args.triple.object
gains c = put_gains c.args.self.now.rows.now c.in-Some.row c.args.triple.subject c.args.triple.property c.args.triple.object c.in-Some.ensures.0 c.in-Some.ensures.1

after : (c : In-Some) → Lawful c.args.self.now.nodes (min (length c.args.self.now.rows.now) 1024) (arcs_of (set c.args.self.now.rows.now c.in-Some.row (full c.args.triple.subject c.args.triple.property c.args.triple.object)))
after c =
    let nodes = nodes_below c.args.self.now.nodes c.args.triple.subject c.args.triple.object c.in_ok-check_nodes.ensures in
    lawful_more _ _ c.args.triple.subject c.args.triple.property c.args.triple.object (gains c) _ _ nodes.0 (lawful_in c.args.self.now)
    (omega arith) nodes.1 (sym c.is_present.ensures ∙ c.if-is_present.false) (λ e. true≢false (sym (eq-eqb _ _ e) ∙ sym c.is_node_full.ensures ∙ c.if-is_node_full.false)) (vacant c)

pub offset_bounds-self-row : goal.offset_bounds-self-row
offset_bounds-self-row c = omega (arith, below (goal.at.offset_bounds-self-row c).In-Some)

pub bounds-self-row : goal.bounds-self-row
bounds-self-row c = omega (arith, below (goal.at.bounds-self-row c).In-Some)

pub invariant_of-self : goal.invariant_of-self
invariant_of-self c =
    let a = after (goal.at.invariant_of-self c).In-Some in
    let size = length-set c.args.self.now.rows.now c.in-Some.row (full c.args.triple.subject c.args.triple.property c.args.triple.object) in
    record { small = a.small; few = a.few; apart = a.apart; within = a.within; past = λ n h. ap length (a.past n h); room = omega (arith, size, a.room) }

pub returns : goal.returns
returns c =
    let at = (goal.at.returns c).In-Some in
    let rows = c.args.self.now.rows.now in
    let t = c.args.triple in
    let nodes = nodes_below c.args.self.now.nodes c.args.triple.subject c.args.triple.object c.in_ok-check_nodes.ensures in
    let absent = sym c.is_present.ensures ∙ c.if-is_present.false in
    let unfilled = sym c.is_node_full.ensures ∙ c.if-is_node_full.false in
    record {
      answer = simp (lt-leb _ _ nodes.0, lt-leb _ _ nodes.1, absent, unfilled, ne_eqb _ _ (vacant at)) refl;
      change = gains_added _ _ t.subject t.property t.object (gains at);
      kept = (refl, ap (λ n. min n 1024) (length-set rows c.in-Some.row _));
      held = refl;
      same = drop-set-lt 1024 rows c.in-Some.row _ (omega (arith, below at));
    }
