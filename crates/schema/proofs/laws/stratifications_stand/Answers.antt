use Rattle.schema.proofs.Stratified.{stratified, some_strata}
use Rattle.schema.proofs.laws.stratifications_stand.Goals as goal

pub returns : goal.returns
returns c = record { exactly = stratified; always = some_strata }
