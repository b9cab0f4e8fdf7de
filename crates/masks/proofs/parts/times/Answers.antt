use Rattle.std.proofs.Common.{◌<◌, false, length, sym, ◌∙◌, inl, inr, arith}
use Rattle.std.proofs.Math.ListN.{get_or-append}
use Rattle.masks.proofs.Flags.{either, not_on}
use Rattle.masks.proofs.Tally.{times_any}
use Rattle.masks.proofs.parts.times.Goals as goal
use Rattle.masks.proofs.parts.times.Goals.{then-a-offset0, else-a-offset0}

pub returns : goal.returns
returns c = λ m h.
    let l : m < length c.loop-m.masks = omega (arith, h, c.masks.ensures.value) in
    let here = get_or-append c.loop-m.masks _ false m l in
    let found = c.loop-m.invariant m (omega (arith, h, c.masks.ensures.value)) in
    either (λ o. found.0 (sym here ∙ o), λ y. here ∙ found.1 y)
    (times_any c.args.a.now c.count_parts.new.counts c.args.fan.value c.args.least c.if-a-offset0.lo c.cap-hi.result m c.args.most
    c.args.fan.few h c.cap-hi.ensures.small c.count_parts.ensures c.cap-hi.ensures.same
    (elim c.if-a-offset0.branch [ then-a-offset0 w ↦ inl (w.lo-is, w.if-a-offset0.true) | else-a-offset0 w ↦ inr (w.lo-is, not_on w.if-a-offset0.false) ]))
