use Rattle.std.proofs.Common.{◌≡◌, ℕ, ◌≤◌, Some, sym, refl, ◌∙◌, subst, arith}
use Rattle.std.proofs.lemmas.Result.{err_from_is_err_and}
use Rattle.triple.specs.Faults as store
use Rattle.ledger.specs.Ledger.{Ledger, add_refusal}
use Rattle.ledger.specs.Steps.{AddStep}
use Rattle.ledger.proofs.Keeping.{added_elsewhere}
use Rattle.schema.specs.Accepted.{meaning}
use Rattle.validate.specs.Faults.{told}
use Rattle.validate.specs.Promise.{State, Keeps}
use Rattle.validate.proofs.Keeping.{keeps_none}
use Rattle.validator.specs.Books.{book}
use Rattle.validator.proofs.Editing.{edited, edit_keeps}
use Rattle.validator.proofs.Refusing.{add_no_subject, add_no_object, add_literal, add_as_put, told_store}
use Rattle.validator.proofs.calls.ValidatorValidate.add.Goals as goal

pub returns-then-triple-node_count : goal.returns-then-triple-node_count
returns-then-triple-node_count g c =
    let v = c.args.self.now in
    let t = c.args.triple in
    let b = book (g.S.Store.nodes v.store) (g.S.Store.capacity v.store) (g.S.Store.arcs v.store) (g.V.ValueTest.literals v.values) (g.V.ValueTest.passes v.values) (meaning v.schema).labels v.memory.held in
    record { step = AddStep.refused (add_no_subject b t.subject t.property t.object (omega arith)); kept = keeps_none _ }

pub returns-then-triple-node_count-2 : goal.returns-then-triple-node_count-2
returns-then-triple-node_count-2 g c =
    let v = c.args.self.now in
    let t = c.args.triple in
    let b = book (g.S.Store.nodes v.store) (g.S.Store.capacity v.store) (g.S.Store.arcs v.store) (g.V.ValueTest.literals v.values) (g.V.ValueTest.passes v.values) (meaning v.schema).labels v.memory.held in
    record { step = AddStep.refused (add_no_object b t.subject t.property t.object (omega arith) (omega arith)); kept = keeps_none _ }

pub returns-then-literal : goal.returns-then-literal
returns-then-literal g c =
    let v = c.args.self.now in
    let t = c.args.triple in
    let b = book (g.S.Store.nodes v.store) (g.S.Store.capacity v.store) (g.S.Store.arcs v.store) (g.V.ValueTest.literals v.values) (g.V.ValueTest.passes v.values) (meaning v.schema).labels v.memory.held in
    record { step = AddStep.refused (add_literal b t.subject t.property t.object (omega arith) (omega arith) (sym c.literal.ensures ∙ c.if-literal.true)); kept = keeps_none _ }

pub returns-in_err-put : goal.returns-in_err-put
returns-in_err-put g c =
    let v = c.args.self.now in
    let t = c.args.triple in
    let S = meaning v.schema in
    let ledger : g.row.S.Denot → Ledger = λ s. book (g.S.Store.nodes s) (g.S.Store.capacity s) (g.S.Store.arcs s) (g.V.ValueTest.literals v.values) (g.V.ValueTest.passes v.values) S.labels v.memory.held in
    let state : g.row.S.Denot → State = λ s. record { schema = S; ledger = ledger s; verdicts = v.memory.verdicts } in
    let p = err_from_is_err_and c.from_residual.result c.from_residual.ensures.1 in
    let refused : add_refusal (ledger v.store) t.subject t.property t.object ≡ Some (store.code c.in_err-put.field-0.0) =
    add_as_put (ledger v.store) t.subject t.property t.object (omega arith) (omega arith) (sym c.literal.ensures ∙ c.if-literal.false) ∙ sym c.in_err-put.ensures.answer in
    let same = sym c.in_err-put.ensures.change in
    record {
      step = subst (λ s. AddStep (ledger v.store) t.subject t.property t.object (told c.from_residual.result) (ledger s)) same
          (subst (λ r. AddStep (ledger v.store) t.subject t.property t.object r (ledger v.store)) (sym (told_store c.from_residual.result p.0 c.in_err-put.field-0.0 p.1 p.2)) (AddStep.refused refused));
      kept = subst (λ s. Keeps (state v.store) (state s)) same (keeps_none (state v.store));
    }

pub forget_upstream-requires : goal.forget_upstream-requires
forget_upstream-requires g c =
    let few : c.label_count.result ≤ 32 = omega (arith, c.lawful.ensures.rows.few_labels) in
    record { few = few; within = omega (arith, c.in_ok-put.ensures.kept.0) }

pub returns : goal.returns
returns g c =
    let v = c.args.self.now in
    let t = c.args.triple in
    let s = c.put.new.self in
    let S = meaning v.schema in
    let passes = g.V.ValueTest.passes v.values in
    let ledger = book (g.S.Store.nodes v.store) (g.S.Store.capacity v.store) (g.S.Store.arcs v.store) (g.V.ValueTest.literals v.values) passes S.labels v.memory.held in
    let put = c.in_ok-put.ensures in
    let elsewhere = added_elsewhere (g.S.Store.arcs v.store) t.subject t.property t.object (g.S.Store.arcs s) put.change in
    let change = edited (g.S.Store.nodes v.store) (g.S.Store.capacity v.store) S.labels (g.S.Store.arcs v.store) (g.V.ValueTest.literals v.values) passes v.memory.held
    t.subject (g.S.Store.nodes s) (g.S.Store.capacity s) (g.S.Store.arcs s) c.forget_upstream.new.held put.kept c.lawful-2.ensures.apart c.lawful-3.ensures.apart elsewhere c.label_count.result c.label_count.ensures (c.forget_upstream.ensures passes) in
    let fine = add_as_put ledger t.subject t.property t.object (omega arith) (omega arith) (sym c.literal.ensures ∙ c.if-literal.false) ∙ sym put.answer in
    record {
      step = AddStep.accepted fine put.change change;
      kept = edit_keeps (g.S.Store.nodes v.store) (g.S.Store.capacity v.store) S.labels (g.S.Store.arcs v.store) (g.V.ValueTest.literals v.values) passes v.memory.held
          t.subject (g.S.Store.nodes s) (g.S.Store.capacity s) (g.S.Store.arcs s) c.forget_upstream.new.held S v.memory.verdicts c.lawful-2.ensures.apart elsewhere change;
    }
