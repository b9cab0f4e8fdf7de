use Rattle.std.proofs.Common.{rules}
use Rattle.page.proofs.Adding.{added_or_stopped}
use Rattle.page.proofs.read.add_entry.Goals as goal

pub returns-clause-step : goal.returns-clause-step
returns-clause-step g c = added_or_stopped _ _ _ _ _ _ c.add.result c.map_err.result _ c.add.ensures.step c.map_err.ensures.cases (λ e y post. search rules)
