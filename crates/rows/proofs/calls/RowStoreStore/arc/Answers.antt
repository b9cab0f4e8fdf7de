use Rattle.std.proofs.Common.{rules, tests, take, sym, ◌∙◌}
use Rattle.std.proofs.lemmas.Iterator.{YieldsList-from_slice}
use Rattle.std.proofs.lemmas.Iterator.Consumers.{nth_from_yields_List, YieldsList-at, YieldsList-from_filter_map}
use Rattle.std.proofs.lemmas.Iterator.Adapters.{option_map_id}
use Rattle.rows.specs.Table.{arc_of}
use Rattle.rows.proofs.calls.RowStoreStore.arc.Goals as goal

pub returns : goal.returns
returns c =
    let held = YieldsList-at c.filter_map.ensures.source (YieldsList-from_slice (take 1024 c.args.self.now.rows.now) (c.iter.ensures.rest ∙ c.front.ensures)) in
    rw (sym c.from.ensures)
    (sym (option_map_id _)
    ∙ nth_from_yields_List _ _ c.from.result c.nth.ensures.ran (YieldsList-from_filter_map _ (arc_of c.args.node) held c.filter_map.ensures.closure (λ x r q k. search (rules, tests))))
