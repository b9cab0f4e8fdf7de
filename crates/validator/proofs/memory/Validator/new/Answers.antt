use Rattle.std.proofs.Common.{false, refl, ap}
use mathlib.Core.Path.{fun_ext}
use Rattle.std.proofs.lemmas.Bool.{both_ways}
use Rattle.schema.specs.Accepted.{meaning}
use Rattle.validator.proofs.Places.{none_shown}
use Rattle.validator.proofs.memory.Validator.new.Goals as goal

pub returns : goal.returns
returns g c =
    let L = (meaning c.args.schema).labels in
    let N = g.S.Store.nodes c.args.store in
    record {
      schema = refl;
      store = refl;
      values = refl;
      ledger = ap
          (λ h. record { nodes = N; capacity = g.S.Store.capacity c.args.store; literals = g.V.ValueTest.literals c.args.values; passes = g.V.ValueTest.passes c.args.values; arcs = g.S.Store.arcs c.args.store; held = h })
          (fun_ext (λ n. fun_ext (λ l. none_shown N L 8192 n l)));
      sound = λ σ. record { closed = λ n l o k h. absurd (both_ways false refl h); right = λ n l h. absurd (both_ways false refl h) };
    }
