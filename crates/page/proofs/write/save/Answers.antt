use Rattle.std.proofs.Common.{◌+◌, ◌*◌, ◌/◌, ◌%◌, ◌<◌, length, ap, ◌∙◌, arith}
use Rattle.triple.specs.Stores.{total}
use Rattle.page.proofs.Laid.{count_bytes, save_short, save_parts}
use Rattle.page.proofs.write.save.Goals as goal

pub returns-then-page-length : goal.returns-then-page-length
returns-then-page-length g c =
    let s = c.args.store.now in
    let short : length c.args.page.now < 2 + g.S.Store.nodes s + 2 * total (g.S.Store.nodes s) (g.S.Store.arcs s) = omega arith in
    let both = save_short c.args.page.now (g.S.Store.nodes s) (g.S.Store.arcs s) short in
    record { answer = both.0; after = both.1 }

pub returns : goal.returns
returns g c =
    let s = c.args.store.now in
    let count = count_bytes _ c.node_count-nodes.result (omega arith) c.to_le_bytes.ensures in
    let both = save_parts c.args.page.now c.write_fans.new.fans c.write_arcs.new.arcs _ _ c.from-fans_end.result c.from.result (g.S.Store.nodes s) (g.S.Store.arcs s)
    (count.0 ∙ ap (λ n. n % 256) c.node_count-nodes.ensures) (count.1 ∙ ap (λ n. n / 256) c.node_count-nodes.ensures) (c.from-fans_end.ensures ∙ c.node_count-nodes.ensures) (c.from.ensures ∙ c.total.ensures)
    c.write_fans.ensures c.write_arcs.ensures c.if-page-length.false in
    record { answer = both.0; after = both.1 }
