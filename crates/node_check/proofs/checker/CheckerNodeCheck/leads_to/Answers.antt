use Rattle.std.proofs.Common.{◌==◌, ◌∙◌, sym, rules, tests}
use Rattle.std.proofs.lemmas.Iterator.Consumers.{YieldsList-from_first}
use Rattle.std.proofs.lemmas.Iterator.Search.{any_from_yields_List}
use Rattle.triple.specs.Walks.{counted_left}
use Rattle.node_check.proofs.Typings.{member_object, object_member}
use Rattle.node_check.proofs.checker.CheckerNodeCheck.leads_to.Goals as goal

pub returns : goal.returns
returns g c =
    let o = c.args.object in
    let zs = g.S.Store.arcs c.args.self.now.store.now c.args.node in
    let left = YieldsList-from_first (λ x. x) (counted_left g.S.Store.arcs) zs c.of.ensures.left in
    let is = any_from_yields_List (λ a. a.1 == o) c.any.new.self _ c.any.result c.any.ensures.ran left (λ x b q k. search (rules, tests)) in
    (λ e. member_object o zs (sym is ∙ e), λ h. is ∙ object_member o h.0 h.1)
