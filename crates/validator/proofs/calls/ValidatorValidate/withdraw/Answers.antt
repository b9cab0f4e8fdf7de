use Rattle.std.proofs.Common.{◌≡◌, ℕ, ◌≤◌, Some, sym, refl, subst, arith}
use Rattle.std.proofs.lemmas.Result.{err_from_is_err_and}
use Rattle.triple.specs.Faults as store
use Rattle.ledger.specs.Ledger.{Ledger, withdraw_refusal}
use Rattle.ledger.specs.Steps.{WithdrawStep}
use Rattle.ledger.proofs.Keeping.{removed_elsewhere}
use Rattle.schema.specs.Accepted.{meaning}
use Rattle.validate.specs.Faults.{told}
use Rattle.validate.specs.Promise.{State, Keeps}
use Rattle.validate.proofs.Keeping.{keeps_none}
use Rattle.validator.specs.Books.{book}
use Rattle.validator.proofs.Editing.{edited, edit_keeps}
use Rattle.validator.proofs.Refusing.{taken_node, told_store}
use Rattle.validator.proofs.calls.ValidatorValidate.withdraw.Goals as goal

pub returns-in_err-take : goal.returns-in_err-take
returns-in_err-take g c =
    let v = c.args.self.now in
    let t = c.args.triple in
    let S = meaning v.schema in
    let ledger : g.row.S.Denot → Ledger = λ s. book (g.S.Store.nodes s) (g.S.Store.capacity s) (g.S.Store.arcs s) (g.V.ValueTest.literals v.values) (g.V.ValueTest.passes v.values) S.labels v.memory.held in
    let state : g.row.S.Denot → State = λ s. record { schema = S; ledger = ledger s; verdicts = v.memory.verdicts } in
    let p = err_from_is_err_and c.from_residual.result c.from_residual.ensures.1 in
    let refused : withdraw_refusal (ledger v.store) t.subject t.property t.object ≡ Some (store.code c.in_err-take.field-0.0) =
    sym c.in_err-take.ensures.answer in
    let same = sym c.in_err-take.ensures.change in
    record {
      step = subst (λ s. WithdrawStep (ledger v.store) t.subject t.property t.object (told c.from_residual.result) (ledger s)) same
          (subst (λ r. WithdrawStep (ledger v.store) t.subject t.property t.object r (ledger v.store)) (sym (told_store c.from_residual.result p.0 c.in_err-take.field-0.0 p.1 p.2)) (WithdrawStep.refused refused));
      kept = subst (λ s. Keeps (state v.store) (state s)) same (keeps_none (state v.store));
    }

pub forget_upstream-requires : goal.forget_upstream-requires
forget_upstream-requires g c =
    let few : c.label_count.result ≤ 32 = omega (arith, c.lawful.ensures.rows.few_labels) in
    record { few = few; within = omega (arith, c.in_ok-take.ensures.kept.0, taken_node (g.S.Store.nodes c.args.self.now.store) (g.S.Store.arcs c.args.self.now.store) c.args.triple.subject c.args.triple.property c.args.triple.object c.in_ok-take.ensures.answer) }

pub returns : goal.returns
returns g c =
    let v = c.args.self.now in
    let t = c.args.triple in
    let s = c.take.new.self in
    let S = meaning v.schema in
    let passes = g.V.ValueTest.passes v.values in
    let taken = c.in_ok-take.ensures in
    let elsewhere = removed_elsewhere (g.S.Store.arcs v.store) t.subject t.property t.object (g.S.Store.arcs s) taken.change in
    let change = edited (g.S.Store.nodes v.store) (g.S.Store.capacity v.store) S.labels (g.S.Store.arcs v.store) (g.V.ValueTest.literals v.values) passes v.memory.held
    t.subject (g.S.Store.nodes s) (g.S.Store.capacity s) (g.S.Store.arcs s) c.forget_upstream.new.held taken.kept c.lawful-2.ensures.apart c.lawful-3.ensures.apart elsewhere c.label_count.result c.label_count.ensures (c.forget_upstream.ensures passes) in
    record {
      step = WithdrawStep.accepted (sym taken.answer) taken.change change;
      kept = edit_keeps (g.S.Store.nodes v.store) (g.S.Store.capacity v.store) S.labels (g.S.Store.arcs v.store) (g.V.ValueTest.literals v.values) passes v.memory.held
          t.subject (g.S.Store.nodes s) (g.S.Store.capacity s) (g.S.Store.arcs s) c.forget_upstream.new.held S v.memory.verdicts c.lawful-2.ensures.apart elsewhere change;
    }
