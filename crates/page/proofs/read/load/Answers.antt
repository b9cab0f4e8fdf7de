use Rattle.std.proofs.Common.{◌≡◌, ℕ, refl, arith}
use Rattle.std.proofs.lemmas.List.{take_rest}
use Rattle.std.proofs.lemmas.Result.{err_from_is_err_and}
use Rattle.validate.proofs.Keeping.{keeps_none}
use Rattle.page.proofs.Outcomes.{parts_cut, refused_loads, passes, adds_load, stops_load}
use Rattle.page.proofs.Restored.{restored}
use Rattle.page.proofs.read.load.Goals as goal

pub returns-in_err-total : goal.returns-in_err-total
returns-in_err-total g c =
    let p = err_from_is_err_and c.from_residual.result c.from_residual.ensures.1 in
    let step = refused_loads (g.A.Validate.state c.args.validator.now).ledger _ _ _ _ c.node_count-nodes.ensures c.in_err-total.ensures.answer in
    rw (p.1, p.2)
    (record {
      step = step;
      restored = restored _ _ _ _ step;
      same = λ e h. refl;
      kept = keeps_none _;
    })

pub returns-in_err-add_page : goal.returns-in_err-add_page
returns-in_err-add_page g c =
    let bytes = c.args.page.now in
    let n = c.node_count-nodes.result in
    let t = c.in_ok-total.total in
    let head = c.in_ok-total.ensures in
    let then = c.in_err-add_page.ensures in
    let parts = parts_cut bytes _ _ _ _ _ n _ t (take_rest bytes 2) c.from.ensures c.split_at.ensures.front c.split_at.ensures.back c.split_at-2.ensures.front c.split_at-2.ensures.back in
    let none = passes (g.A.Validate.state c.args.validator.now).ledger n t bytes _ _ _ c.node_count-nodes.ensures head.answer head.made parts.0 parts.1 parts.2 in
    let p = err_from_is_err_and c.from_residual-in_err-add_page.result c.from_residual-in_err-add_page.ensures.1 in
    let step = stops_load (g.A.Validate.state c.args.validator.now).ledger n t bytes _ _ _ c.node_count-nodes.ensures head.answer head.made parts.0 parts.1 parts.2 _ c.in_err-add_page.field-0.0 then.step in
    rw (p.1, p.2)
    (record {
      step = step;
      restored = restored _ _ _ _ step;
      same = λ e h. let z : ◌≡◌ {A = ℕ} 0 1 = cc (none, h) in absurd (omega arith);
      kept = then.kept;
    })

pub returns : goal.returns
returns g c =
    let bytes = c.args.page.now in
    let n = c.node_count-nodes.result in
    let t = c.in_ok-total.total in
    let head = c.in_ok-total.ensures in
    let then = c.in_ok-add_page.ensures in
    let parts = parts_cut bytes _ _ _ _ _ n _ t (take_rest bytes 2) c.from.ensures c.split_at.ensures.front c.split_at.ensures.back c.split_at-2.ensures.front c.split_at-2.ensures.back in
    let none = passes (g.A.Validate.state c.args.validator.now).ledger n t bytes _ _ _ c.node_count-nodes.ensures head.answer head.made parts.0 parts.1 parts.2 in
    let step = adds_load (g.A.Validate.state c.args.validator.now).ledger n t bytes _ _ _ c.node_count-nodes.ensures head.answer head.made parts.0 parts.1 parts.2 _ then.step in
    record {
      step = step;
      restored = restored _ _ _ _ step;
      same = λ e h. let z : ◌≡◌ {A = ℕ} 0 1 = cc (none, h) in absurd (omega arith);
      kept = then.kept;
    }
