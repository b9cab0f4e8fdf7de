use Rattle.std.proofs.Common.{◌&&◌, ◌||◌, eqb, ap, ◌∙◌}
use Rattle.std.proofs.lemmas.Bool.{lt-ltb}
use Rattle.labels.specs.Members.{member}
use Rattle.references.proofs.reach.with_label.Goals as goal

pub returns : goal.returns
returns c k =
    c.union.ensures k
    ∙ ap (λ b. b || member c.args.labels k) (c.one.ensures k ∙ ap (λ b. b && eqb c.args.l k) (lt-ltb c.args.l 32 c.requires))
