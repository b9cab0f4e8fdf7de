use Rattle.std.proofs.Common.{length, take, refl, ap, subst, arith}
use Rattle.std.proofs.lemmas.List.{length-take-le}
use Rattle.shapes.specs.Lists.{Member}
use Rattle.leaning.proofs.Marking.{member_take}
use Rattle.leaning.proofs.search.Search.pop.Goals as goal

pub invariant_of-self-clause-waits : goal.invariant_of-self-clause-waits
invariant_of-self-clause-waits c g m =
    let w = c.args.self.now.waiting.now in
    let v = c.pop.new.self in
    let len = c.pop.ensures.len in
    c.args.self.now.waits g (member_take v.len w.len w.slots.now g (omega arith) (subst (λ s. Member g (take v.len s)) c.pop.ensures.same m))

pub invariant_of-self-clause-room : goal.invariant_of-self-clause-room
invariant_of-self-clause-room c =
    let w = c.args.self.now.waiting.now in
    let v = c.pop.new.self in
    let len = c.pop.ensures.len in
    let same = ap length c.pop.ensures.same in
    let before = length-take-le w.len w.slots.now w.fits in
    let after = length-take-le v.len v.slots.now v.fits in
    let room = c.args.self.now.room in
    omega arith

pub returns : goal.returns
returns c =
    record {
      frame = record { pairs = refl; held = refl; lent = refl; rest = refl; kept = λ g m. m };
      marks = refl;
      waiting = c.pop.ensures.change;
    }
