use Rattle.std.proofs.Common.{ap, ◌∙◌}
use Rattle.draft.specs.Tables.{schema_of}
use Rattle.tables.specs.Held.{held}
use Rattle.node_check.specs.Answers.{graph}
use Rattle.node_check.proofs.Typings.{satisfied_bounded}
use Rattle.node_check.proofs.checker.CheckerNodeCheck.satisfied.Goals as goal

pub returns : goal.returns
returns g c =
    let m = c.args.self.now in
    let new = c.satisfied.new.self in
    let k = c.satisfied.ensures.kept in
    let S = schema_of (held m.tables.now) in
    let G = graph (g.S.Store.nodes m.store.now) (g.S.Store.arcs m.store.now) (g.V.ValueTest.passes m.values.now) in
    record {
      value = λ l n k.
          let found = c.satisfied.ensures.answers l in
          let same = satisfied_bounded S G c.args.typing.now c.args.node l (c.lawful.ensures.within c.args.node) in
          (λ e. same.0 (found.0 e).2, λ s. found.1 (n, k, same.1 s));
      kept = (
        ap (λ t. schema_of (held t.now)) k.0,
        ap (λ s. graph (g.S.Store.nodes s.now) (g.S.Store.arcs s.now) (g.V.ValueTest.passes new.values.now)) k.1
            ∙ ap (λ v. graph (g.S.Store.nodes m.store.now) (g.S.Store.arcs m.store.now) (g.V.ValueTest.passes v.now)) k.2,
      );
    }
