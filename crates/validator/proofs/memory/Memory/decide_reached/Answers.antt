use Rattle.std.proofs.Common.{◌≡◌, ◌*◌, ◌≤◌, true, length, get_or, is_ok, OnOk, Ok, Err, Result, sym, ap, ◌∙◌, subst, arith}
use Rattle.std.proofs.lemmas.Nat.{mul-le}
use Rattle.std.proofs.lemmas.Bool.{and_from, lt-ltb, le-leb, true≢false}
use Rattle.node_check.specs.Answers.{graph}
use Rattle.draft.specs.Tables.{schema_of}
use Rattle.leaning.specs.Pairs.{accepted}
use Rattle.leaning.specs.Search.{Looked}
use Rattle.shapes.specs.Bytes.{byte_typing}
use Rattle.schema.specs.Accepted.{meaning}
use Rattle.validator.proofs.Places.{spot, place_in_table, decides_shown}
use Rattle.validator.proofs.Widening.{joined_shown, looked_at, looked_held}
use Rattle.validator.proofs.memory.Memory.decide_reached.Goals as goal

-- what a search that is not refused promises
when_ok : {A E Q : Type 0} (r : Result A E) → is_ok r ≡ true → OnOk r Q → Q
when_ok (Ok x) e h = h
when_ok (Err x) e h = absurd (true≢false (sym e))

pub returns : goal.returns
returns g c =
    let S = meaning c.args.schema.now in
    let N = g.S.Store.nodes c.args.store.now in
    let G = graph N (g.S.Store.arcs c.args.store.now) (g.V.ValueTest.passes c.args.values.now) in
    let n = c.args.goal.node in
    let l = c.args.goal.label in
    let held = c.args.self.now.held in
    let wanted = c.reach.new.marks in
    let room : N * S.labels ≤ 8192 = mul-le N S.labels 256 32 c.lawful-2.ensures.small c.lawful.ensures.rows.few_labels in
    let held_room : N * S.labels ≤ length held = omega (arith, room) in
    let wanted_room : N * S.labels ≤ length c.args.self.now.wanted = omega (arith, room) in
    let goals_room : N * S.labels ≤ length c.args.self.now.goals = omega (arith, room) in
    let fits : accepted N S.labels (length held) (length c.args.self.now.wanted) (length c.args.self.now.goals) n l ≡ true =
    and_from _ _ (lt-ltb n N c.requires.0) (and_from _ _ (lt-ltb l S.labels c.requires.1) (and_from _ _ (le-leb (N * S.labels) (length held) held_room) (and_from _ _ (le-leb (N * S.labels) (length c.args.self.now.wanted) wanted_room) (le-leb (N * S.labels) (length c.args.self.now.goals) goals_room)))) in
    let answer = subst (λ t. is_ok c.reach.result ≡ accepted N (schema_of t).labels (length held) (length c.args.self.now.wanted) (length c.args.self.now.goals) n l) c.tables.ensures c.reach.ensures.answer in
    let looked = subst (λ t. Looked (schema_of t) G (byte_typing N (schema_of t).labels held) n l (byte_typing N (schema_of t).labels wanted)) c.tables.ensures (when_ok c.reach.result (answer ∙ fits) c.reach.ensures.change (g.V.ValueTest.passes c.args.values.now)) in
    looked_at S G n l (byte_typing N S.labels held) (byte_typing N S.labels wanted) (byte_typing N S.labels c.args.self.now.verdicts) (byte_typing N S.labels c.decide_wanted.new.self.held) (byte_typing N S.labels c.decide_wanted.new.self.verdicts)
    looked (joined_shown N S.labels wanted held c.decide_wanted.new.self.held c.decide_wanted.ensures.change) c.decide_wanted.ensures.value

pub bounds-self-place : goal.bounds-self-place
bounds-self-place g c =
    let L = (meaning c.args.schema.now).labels in
    omega (
      arith,
      spot c.from.result c.args.goal.node c.label_count.result L c.from-2.result c.args.goal.label c.from.ensures c.label_count.ensures c.from-2.ensures,
      place_in_table (g.S.Store.nodes c.args.store.now) L c.args.goal.node c.args.goal.label c.lawful-2.ensures.small c.lawful.ensures.rows.few_labels c.requires.0 c.requires.1,
    )

pub returns-then-self-place-eq1 : goal.returns-then-self-place-eq1
returns-then-self-place-eq1 g c =
    let S = meaning c.args.schema.now in
    let N = g.S.Store.nodes c.args.store.now in
    let G = graph N (g.S.Store.arcs c.args.store.now) (g.V.ValueTest.passes c.args.values.now) in
    let n = c.args.goal.node in
    let l = c.args.goal.label in
    let at = spot c.from.result n c.label_count.result S.labels c.from-2.result l c.from.ensures c.label_count.ensures c.from-2.ensures in
    let here = (decides_shown N S.labels c.args.self.now.held n l).1 (c.requires, ap (λ k. get_or c.args.self.now.held k 0) (sym at) ∙ c.if-self-place-eq1.true) in
    looked_held S G n l (byte_typing N S.labels c.args.self.now.held) (byte_typing N S.labels c.args.self.now.verdicts) here
