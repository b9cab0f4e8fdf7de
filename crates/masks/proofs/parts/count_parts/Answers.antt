use Rattle.std.proofs.Common.{arith}
use Rattle.masks.proofs.Flags.{filled}
use Rattle.masks.proofs.Tally.{begun_none}
use Rattle.masks.proofs.parts.count_parts.Goals as goal

pub loop-place-init : goal.loop-place-init
loop-place-init c =
    begun_none c.args.a.now _ c.args.fan.value (omega arith) (λ m h. filled 0 _ c.fill.new.self _ m (c.fill.ensures.after (λ y e. e)) (omega (arith, h, c.masks.ensures.value)))
