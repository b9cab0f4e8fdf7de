use Rattle.std.proofs.Common.{arith}
use Rattle.validator.proofs.Places.{row_below}
use Rattle.validator.proofs.forget.forget_marked.Goals as goal

pub bounds-marks-place : goal.bounds-marks-place
bounds-marks-place c = omega (arith, row_below 256 c.args.labels c.loop-place.place (omega arith))
