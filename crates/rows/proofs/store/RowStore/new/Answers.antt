use Rattle.std.proofs.Common.{rules, ◌≡◌, ℕ, [], ◌++◌, length, drop, refl, ap, ◌∙◌, arith}
use Rattle.triple.proofs.Changes.{total_none}
use Rattle.rows.specs.Table.{arcs_of}
use Rattle.rows.proofs.Tables.{made, length_made, drop_made, arcs_none}
use Rattle.rows.proofs.store.RowStore.new.Goals as goal
use Rattle.rows.proofs.store.RowStore.new.Goals.{After-min}

-- the rows are freed, so that no node has an arc
bare : (c : After-min) (n : ℕ) → arcs_of (c.fill.new.self ++ drop (c.min-count.result) c.args.rows.now) n ≡ []
bare c n = ap (λ rows. arcs_of rows n) (made c.args.rows.now c.fill.new.self c.min-count.result c.min-count.ensures (c.fill.ensures.after (λ y h. search rules))) ∙ arcs_none c.args.rows.now n

pub invariant_of-result : goal.invariant_of-result
invariant_of-result c =
    let none = bare (goal.at.invariant_of-result c).After-min in
    record {
      small = omega arith;
      few = λ n. rw (none n) (omega arith);
      apart = λ n. rw (none n) refl;
      within = λ n. rw (none n) refl;
      past = λ n h. ap length (none n);
      room = omega (arith, total_none _ c.min.result none);
    }

pub returns : goal.returns
returns c =
    let at = (goal.at.returns c).After-min in
    let freed = made c.args.rows.now c.fill.new.self c.min-count.result c.min-count.ensures (c.fill.ensures.after (λ y h. search rules)) in
    record {
      nodes = c.min.ensures;
      after = freed;
      held = refl;
      kept = ap length freed ∙ length_made c.args.rows.now;
      same = ap (drop 1024) freed ∙ drop_made c.args.rows.now;
      empty = bare at;
    }
