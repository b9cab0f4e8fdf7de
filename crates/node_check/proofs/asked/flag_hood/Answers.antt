use Rattle.std.proofs.Common.{◌≡◌, ◌<◌, true, ◌⊎◌, ◌↔◌, set, sym, refl, subst, arith}
use Rattle.masks.specs.Masks.{On}
use Rattle.draft.proofs.Flags.{flag_set}
use Rattle.node_check.proofs.Naming.{same_right}
use Rattle.node_check.specs.Named.{Hoods}
use Rattle.node_check.proofs.asked.flag_hood.Goals as goal

pub bounds-triples-from : goal.bounds-triples-from
bounds-triples-from c = omega (arith, c.from.ensures, c.requires c.in-Hood.e (subst (λ row. Hoods row c.in-Hood.e) (sym c.in-Hood.is) refl))

pub returns-in-Hood : goal.returns-in-Hood
returns-in-Hood c p =
    let x = c.in-Hood.e in
    let few : x < 128 = c.requires x (subst (λ row. Hoods row x) (sym c.in-Hood.is) refl) in
    let flags = subst (λ k. On (set c.args.triples.now k true) p ↔ (On c.args.triples.now p ⊎ (x ≡ p))) (sym c.from.ensures) (flag_set c.args.triples.now x p (omega (arith, c.told-triples))) in
    same_right flags (subst (λ row. Hoods row p ↔ (x ≡ p)) (sym c.in-Hood.is) (λ n. n, λ n. n))
