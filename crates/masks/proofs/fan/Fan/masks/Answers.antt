use Rattle.std.proofs.Common.{◌^◌, ◌<◌, ◌≤◌, arith, pow_mono}
use Rattle.std.proofs.lemmas.Nat.{one_shl}
use Rattle.masks.proofs.fan.Fan.masks.Goals as goal

pub returns : goal.returns
returns c =
    let n = c.args.self.value in
    let few : n ≤ 12 = c.args.self.few in
    let l : n < 64 = omega arith in
    let p : 2 ^ n ≤ 2 ^ 12 = pow_mono few in
    record { value = one_shl n 64 l; bound = omega (arith, one_shl n 64 l) }
