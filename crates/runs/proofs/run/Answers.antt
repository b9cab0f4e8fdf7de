use Rattle.std.proofs.Common.{◌≡◌, length, take, ap, ◌∙◌}
use Rattle.std.proofs.lemmas.Result.{on_ok_weaker, on_err_weaker}
use Rattle.ledger.specs.Ledger.{Ledger, graph}
use Rattle.ledger.specs.Sound.{Sound}
use Rattle.validate.specs.Promise.{State}
use Rattle.replay.specs.Runs.{Runs, Best}
use Rattle.schema.specs.Accepted.{meaning}
use Rattle.schema.proofs.Stratified.{some_strata}
use Rattle.validator.specs.Books.{book, opening}
use Rattle.runs.proofs.Beginning.{from_making}
use Rattle.runs.proofs.run.Goals as goal

pub returns : goal.returns
returns g c =
    let v = c.new-validator.result in
    let w = c.replay-done.new.validator in
    let S = meaning c.args.schema in
    let T = meaning v.schema in
    let same : T ≡ S = ap meaning c.new-validator.ensures.schema in
    let start = opening (g.S.Store.nodes c.args.store) (g.S.Store.capacity c.args.store) (g.S.Store.arcs c.args.store) (g.V.ValueTest.literals c.args.values) (g.V.ValueTest.passes c.args.values) in
    let here = book (g.S.Store.nodes v.store) (g.S.Store.capacity v.store) (g.S.Store.arcs v.store) (g.V.ValueTest.literals v.values) (g.V.ValueTest.passes v.values) T.labels v.memory.held in
    let end = book (g.S.Store.nodes w.store) (g.S.Store.capacity w.store) (g.S.Store.arcs w.store) (g.V.ValueTest.literals w.values) (g.V.ValueTest.passes w.values) (meaning w.schema).labels w.memory.held in
    let begins : here ≡ start =
    ap (λ s. book (g.S.Store.nodes s) (g.S.Store.capacity s) (g.S.Store.arcs s) (g.V.ValueTest.literals v.values) (g.V.ValueTest.passes v.values) T.labels v.memory.held) c.new-validator.ensures.store
    ∙ ap (λ t. book (g.S.Store.nodes c.args.store) (g.S.Store.capacity c.args.store) (g.S.Store.arcs c.args.store) (g.V.ValueTest.literals t) (g.V.ValueTest.passes t) T.labels v.memory.held) c.new-validator.ensures.values
    ∙ ap (λ X. book (g.S.Store.nodes c.args.store) (g.S.Store.capacity c.args.store) (g.S.Store.arcs c.args.store) (g.V.ValueTest.literals c.args.values) (g.V.ValueTest.passes c.args.values) X.labels v.memory.held) same
    ∙ c.new-validator.ensures.ledger in
    let calls = c.args.calls.now in
    let state : State = record { schema = T; ledger = here; verdicts = v.memory.verdicts } in
    let from = from_making S start state same begins c.new-validator.ensures.sound in
    let sound = from (λ X σ b. Sound X σ end w.memory.verdicts) c.replay-done.ensures.kept.sound in
    record {
      answer = c.replay-done.ensures.answer;
      refused = on_err_weaker c.replay-done.result
          (λ kept. (ap (λ x. book (g.S.Store.nodes x.store) (g.S.Store.capacity x.store) (g.S.Store.arcs x.store) (g.V.ValueTest.literals x.values) (g.V.ValueTest.passes x.values) (meaning x.schema).labels x.memory.held) kept.0 ∙ begins, kept.1, kept.2))
          c.replay-done.ensures.refused;
      kept = on_ok_weaker c.replay-done.result
          (λ ran. record {
            some = some_strata c.args.schema;
            answered = from (λ X σ b. Runs X σ b calls (take (length calls) c.replay-done.new.answers) c.args.tables.now c.replay-done.new.tables end) ran;
            verdicts = λ σ stratified n l h. (sound σ stratified).right n l h;
            maximal = from (λ X σ b. Best X (graph end) σ) (λ σ stratified _. c.replay-done.ensures.typing σ stratified);
          })
          c.replay-done.ensures.runs;
      sound = sound;
      same = c.replay-done.ensures.same;
      schema = c.replay-done.ensures.kept.schema ∙ same;
    }
