use Rattle.std.proofs.Common.{◌≡◌, ◌+◌, ◌%◌, ◌^◌, cond, is_some, length, take, ◌∙◌, arith, rules, tests}
use Rattle.std.proofs.lemmas.Iterator.{YieldsList-from_slice}
use Rattle.std.proofs.lemmas.Iterator.Consumers.{fold_from_yields_List}
use Rattle.rows.specs.Table.{arc_of, arcs_of}
use Rattle.rows.proofs.Tables.{arcs_counted, length_front}
use Rattle.rows.proofs.calls.RowStoreStore.fan.Goals as goal
use Rattle.rows.proofs.calls.RowStoreStore.fan.Goals.{After-fold}

counted : (c : After-fold) → c.fold.result ≡ length (arcs_of c.args.self.now.rows.now c.args.node)
counted c =
    let n = c.args.node in
    let rows = c.args.self.now.rows.now in
    fold_from_yields_List _ (λ a row. cond (is_some (arc_of n row)) ((a + 1) % 2 ^ 64) a) 0 c.fold.result c.fold.ensures.ran (YieldsList-from_slice (take 1024 rows) (c.iter.ensures.rest ∙ c.front.ensures)) (λ a x b q k. search (rules, tests))
    ∙ arcs_counted n (take 1024 rows) (omega (arith, length_front rows))

pub overflow_cast-result : goal.overflow_cast-result
overflow_cast-result c = omega (arith, counted (goal.at.overflow_cast-result c).After-fold, c.args.self.now.few c.args.node)

pub returns : goal.returns
returns c = counted (goal.at.returns c).After-fold
