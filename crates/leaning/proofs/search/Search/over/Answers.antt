use Rattle.std.proofs.Common.{◌≡◌, ◌*◌, ◌++◌, not, eqb, length, take, drop, refl, ap, subst, arith}
use Rattle.std.proofs.lemmas.List.{length-take}
use Rattle.std.proofs.lemmas.List.Sums.{count_by-le-length}
use Rattle.shapes.specs.Lists.{Member}
use Rattle.stack.specs.Entries.{entries}
use Rattle.leaning.proofs.Showing.{shown_none, cleared_byte, cleared_rest}
use Rattle.leaning.proofs.search.Search.over.Goals as goal

pub invariant_of-result-clause-clean : goal.invariant_of-result-clause-clean
invariant_of-result-clause-clean c i h =
    let zero = cleared_byte c.count.result (c.args.pairs.nodes * c.args.pairs.labels) c.args.marks.now c.fill.new.self c.count.ensures c.requires.marks_long (c.fill.ensures.after (λ y e. e)) i h in
    omega arith

pub invariant_of-result-clause-apart : goal.invariant_of-result-clause-apart
invariant_of-result-clause-apart c g m =
    let zero = cleared_byte c.count.result (c.args.pairs.nodes * c.args.pairs.labels) c.args.marks.now c.fill.new.self c.count.ensures c.requires.marks_long (c.fill.ensures.after (λ y e. e)) in
    absurd (shown_none c.args.pairs.nodes c.args.pairs.labels _ zero g m)

pub invariant_of-result-clause-waits : goal.invariant_of-result-clause-waits
invariant_of-result-clause-waits c g m = elim (subst (λ k. Member g (entries c.args.waiting.now.slots.now k)) c.requires.idle m) [ ]

pub invariant_of-result-clause-room : goal.invariant_of-result-clause-room
invariant_of-result-clause-room c =
    let count = c.args.pairs.nodes * c.args.pairs.labels in
    let marks = c.fill.new.self ++ drop c.count.result c.args.marks.now in
    let idle : length (entries c.args.waiting.now.slots.now c.args.waiting.now.len) ≡ 0 = ap (λ k. length (entries c.args.waiting.now.slots.now k)) c.requires.idle in
    let most = count_by-le-length (λ b. not (eqb b 1)) (take count marks) in
    let size = length-take count marks in
    omega (arith, idle, most, size, c.requires.goals_long)

pub returns-clause-begun : goal.returns-clause-begun
returns-clause-begun c =
    let count = c.args.pairs.nodes * c.args.pairs.labels in
    let cleared = c.fill.ensures.after (λ y e. e) in
    let zero = cleared_byte c.count.result count c.args.marks.now c.fill.new.self c.count.ensures c.requires.marks_long cleared in
    record {
      pairs = refl;
      held = refl;
      rest = cleared_rest c.count.result count c.args.marks.now c.fill.new.self c.count.ensures c.requires.marks_long cleared;
      none = shown_none c.args.pairs.nodes c.args.pairs.labels _ zero;
      idle = ap (entries c.args.waiting.now.slots.now) c.requires.idle;
    }
