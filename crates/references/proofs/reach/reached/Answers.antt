use Rattle.std.proofs.Common.{◌&&◌, ◌||◌, sym, ap, ◌∙◌, ap₂, add-one, arith}
use Rattle.labels.specs.Rows.{mentioned_in}
use Rattle.references.specs.Ways.{way}
use Rattle.references.proofs.reach.reached.Goals as goal

pub loop-m-init : goal.loop-m-init
unfolding way
loop-m-init c = c.with_self-reach.ensures

pub loop-m-preserved : goal.loop-m-preserved
unfolding way
loop-m-preserved c a k h =
    let R = mentioned_in c.args.references.now in
    let m = c.loop-m.m in
    c.through.ensures a k h
    ∙ ap₂ (λ x y. x || y) (c.loop-m.invariant a k h) (ap₂ (λ x y. x && y) (c.loop-m.invariant a m h) (c.loop-m.invariant m k (omega arith)))
    ∙ ap (λ n. way R n a k) (sym (add-one m))
