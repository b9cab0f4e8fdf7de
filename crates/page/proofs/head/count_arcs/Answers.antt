use Rattle.std.proofs.Common.{◌≡◌, ◌+◌, ◌<◌, length, take, Ok, sum, sym, ap, ◌∙◌, arith}
use Rattle.std.proofs.lemmas.List.{take_all, drop_all}
use Rattle.std.proofs.lemmas.List.Sums.{sum_by_more}
use Rattle.page.specs.Loading.{wide}
use Rattle.page.proofs.Checks.{wide_here, wide_past, wide_found, wide_none}
use Rattle.page.proofs.head.count_arcs.Goals as goal

pub returns-then-fan-gt-MAX_FAN : goal.returns-then-fan-gt-MAX_FAN
returns-then-fan-gt-MAX_FAN c =
    let fans = c.args.fans.now in
    let i = c.loop-node.node in
    let h : i < length fans = omega arith in
    let found : wide fans ≡ i = omega (arith, c.loop-node.invariant.2, wide_here fans i h c.if-fan-gt-MAX_FAN.true) in
    record { answer = wide_found fans i (sum fans) h found; bound = tt }

pub loop-node-preserved : goal.loop-node-preserved
loop-node-preserved c =
    let fans = c.args.fans.now in
    let i = c.loop-node.node in
    let h : i < length fans = omega arith in
    let low = c.if-fan-gt-MAX_FAN.false in (
      ap (λ k. k + c.from-total.result) c.loop-node.invariant.0 ∙ ap (λ k. sum (take i fans) + k) c.from-total.ensures ∙ sym (sum_by_more (λ x. x) fans i 0 h),
      omega (arith, c.loop-node.invariant.1, low),
      omega (arith, c.loop-node.invariant.2, wide_past fans i h low),
    )

pub returns : goal.returns
returns c =
    let fans = c.args.fans.now in
    let i = c.loop-node.node in
    let end : i ≡ length fans = omega arith in
    let all : wide fans ≡ length fans = omega (arith, c.loop-node.invariant.2, ap wide (drop_all i fans (omega arith))) in
    let counted : c.loop-node.total ≡ sum fans = c.loop-node.invariant.0 ∙ ap sum (take_all i fans (omega arith)) in
    record { answer = ap Ok counted ∙ wide_none fans (sum fans) all; bound = omega (arith, c.loop-node.invariant.1) }
