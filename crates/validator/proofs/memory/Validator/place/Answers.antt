use Rattle.std.proofs.Common.{◌+◌, ◌*◌, arith}
use Rattle.schema.specs.Accepted.{meaning}
use Rattle.validator.specs.Books.{book}
use Rattle.validator.proofs.Places.{spot, place_in_table}
use Rattle.validator.proofs.Refusing.{pair_no_node, pair_no_label}
use Rattle.validator.proofs.memory.Validator.place.Goals as goal

pub returns-then-node-node_count : goal.returns-then-node-node_count
returns-then-node-node_count g c =
    let v = c.args.self.now in
    pair_no_node (meaning v.schema) (book (g.S.Store.nodes v.store) (g.S.Store.capacity v.store) (g.S.Store.arcs v.store) (g.V.ValueTest.literals v.values) (g.V.ValueTest.passes v.values) (meaning v.schema).labels v.memory.held) c.args.node c.args.label (omega arith)

pub returns-then-from-labels : goal.returns-then-from-labels
returns-then-from-labels g c =
    let v = c.args.self.now in
    pair_no_label (meaning v.schema) (book (g.S.Store.nodes v.store) (g.S.Store.capacity v.store) (g.S.Store.arcs v.store) (g.V.ValueTest.literals v.values) (g.V.ValueTest.passes v.values) (meaning v.schema).labels v.memory.held) c.args.node c.args.label (omega arith) (omega arith)

pub returns : goal.returns
returns g c =
    let L = (meaning c.args.self.now.schema).labels in
    let at = spot c.from-2.result c.args.node c.label_count-labels.result L c.from-3.result c.args.label c.from-2.ensures c.label_count-labels.ensures c.from-3.ensures in
    (omega arith, omega arith, at, omega (arith, at, place_in_table (g.S.Store.nodes c.args.self.now.store) L c.args.node c.args.label c.lawful-2.ensures.small c.lawful.ensures.rows.few_labels (omega arith) (omega arith)))
