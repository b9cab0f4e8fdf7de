use Rattle.std.proofs.Common.{◌≡◌, ℕ, ◌+◌, Bool, true, false, ◌↔◌, List, length, get_or, sym, refl, ap, ◌∙◌, subst, arith, length-set}
use lib.ListN.{length-replicate}
use Rattle.tables.specs.Held.{held}
use Rattle.masks.specs.Masks.{On}
use Rattle.masks.proofs.Flags.{Upto, upto_none, upto_more}
use Rattle.hoods.specs.Words.{Meets}
use Rattle.hoods.proofs.Flagged.{upto_skip}
use Rattle.node_check.specs.Answers.{graph}
use Rattle.node_check.proofs.Rows.{answered}
use Rattle.node_check.proofs.checker.Checker.answers_of.Goals as goal
use Rattle.node_check.proofs.checker.Checker.answers_of.Goals.{then-wanted-label, else-wanted-label}

pub returns-then-node-node_count : goal.returns-then-node-node_count
returns-then-node-node_count g c =
    record {
      answers = λ l. (λ o. absurd (omega (arith, ((upto_none (λ _. ⊥) 32 l).0 o).0)), λ x. absurd (omega (arith, x.1.0)));
      kept = (refl, refl, refl);
    }

pub loop-label-init : goal.loop-label-init
loop-label-init g c =
    (upto_none (λ k. On c.args.wanted.now k × On c.shape_rows-holds.result (get_or c.definitions-row-items.result.now k 0)) 32, length-replicate 32 false)

pub loop-label-preserved : goal.loop-label-preserved
loop-label-preserved g c =
    let q = c.loop-label.label in
    let defs = c.definitions-row-items.result.now in
    let holds = c.shape_rows-holds.result in
    let wanted = c.args.wanted.now in
    let Kept : List Bool → Type 0 = λ answers. Upto (λ k. On wanted k × On holds (get_or defs k 0)) (q + 1) answers × (length answers ≡ 32) in
    elim c.if-wanted-label.branch [
      | then-wanted-label w ↦
          (let v = get_or holds w.from.result false in
          let same : (v ≡ true) ↔ (On wanted q × On holds (get_or defs q 0)) =
          (λ o. (w.if-wanted-label.true, subst (λ k. On holds k) w.from.ensures o), λ x. subst (λ k. On holds k) (sym w.from.ensures) x.1) in
          subst Kept (sym w.answers-is) (
            upto_more (λ k. On wanted k × On holds (get_or defs k 0)) q c.loop-label.answers v (omega (arith, c.lawful.ensures.few_labels, ap length c.definitions-row-items.ensures, c.loop-label.invariant.1)) same c.loop-label.invariant.0,
            length-set c.loop-label.answers q v ∙ c.loop-label.invariant.1,
          ))
      | else-wanted-label w ↦ subst Kept (sym w.answers-is) (upto_skip wanted (λ k. On holds (get_or defs k 0)) q c.loop-label.answers w.if-wanted-label.false c.loop-label.invariant.0, c.loop-label.invariant.1)
    ]

pub returns : goal.returns
returns g c =
    let t = held c.args.self.now.tables.now in
    let G = graph (g.S.Store.nodes c.args.self.now.store.now) (g.S.Store.arcs c.args.self.now.store.now) (g.V.ValueTest.passes c.args.self.now.values.now) in
    let defs = c.definitions-row-items.ensures in
    let holds = c.shape_rows-holds.result in
    let wanted = c.args.wanted.now in
    let met = c.met_asked-met.result in
    let asked = c.asked_rows-asked.result in
    let all : c.loop-label.label ≡ length t.definitions = omega (arith, ap length defs) in
    record {
      answers =
          answered t c.lawful.ensures G c.args.typing.now c.args.node wanted asked met holds c.loop-label.answers (omega arith)
          c.asked_rows-asked.ensures
          (subst (λ zs. (p : ℕ) → On met p → Meets t c.args.typing.now zs p) c.of-arcs.ensures c.met_asked-met.ensures.only)
          (subst (λ zs. (p : ℕ) → On asked p → Meets t c.args.typing.now zs p → On met p) c.of-arcs.ensures c.met_asked-met.ensures.asked)
          c.shape_rows-holds.ensures
          (subst (λ k. Upto (λ l. On wanted l × On holds (get_or t.definitions l 0)) k c.loop-label.answers) all
          (subst (λ d. Upto (λ l. On wanted l × On holds (get_or d l 0)) c.loop-label.label c.loop-label.answers) defs c.loop-label.invariant.0));
      kept = (refl, refl, refl);
    }
