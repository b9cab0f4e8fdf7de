use Rattle.std.proofs.Common.{◌<◌, ◌^◌, cond, is_some, take, ◌∙◌, arith, rules, of_calls, tests}
use Rattle.std.proofs.lemmas.Iterator.{YieldsList-from_slice, YieldsList-from_map}
use Rattle.std.proofs.lemmas.Iterator.Consumers.{YieldsList-at, sum_by_from_yields_List, fits_by_from_yields_list}
use Rattle.rows.specs.Table.{used}
use Rattle.rows.proofs.Tables.{used_total}
use Rattle.rows.proofs.calls.RowStoreStore.total.Goals as goal

pub sum-requires : goal.sum-requires
sum-requires c =
    let m = c.args.self.now in
    let fits : used (take 1024 m.rows.now) < 2 ^ 16 = omega (arith, used_total m.nodes (take 1024 m.rows.now) m.past, m.room) in
    record { can = search of_calls; finite = search of_calls; fits = fits_by_from_yields_list _ _ c.map.result _ (YieldsList-from_map _ (λ row. cond (is_some row) 1 0) (YieldsList-at c.map.ensures.source (YieldsList-from_slice (take 1024 m.rows.now) (c.iter.ensures.rest ∙ c.front.ensures))) c.map.ensures.closure (λ x r q k. search (rules, tests))) fits }

pub returns : goal.returns
returns c =
    let m = c.args.self.now in
    sum_by_from_yields_List _ _ c.map.result _ c.sum.ensures.ran (YieldsList-from_map _ (λ row. cond (is_some row) 1 0) (YieldsList-at c.map.ensures.source (YieldsList-from_slice (take 1024 m.rows.now) (c.iter.ensures.rest ∙ c.front.ensures))) c.map.ensures.closure (λ x r q k. search (rules, tests)))
    ∙ used_total m.nodes (take 1024 m.rows.now) m.past
