-- Which layer and number each fault of a validator stands for. Assumes nothing.
--     code f     the layer and the number of the fault f; a store's fault keeps its own
--     told r     an answer, with its fault as layer and number
use Rattle.std.specs.Prelude.{Ok, Err, Result}
use Rattle.refusal.specs.declared.Layer.TheVariants.{Validator}
use Rattle.refusal.specs.Refusals.{Refusal}
use Rattle.triple.specs.Faults as store
use Rattle.validate.specs.declared.fault.ValidatorFault.{ValidatorFault}
use Rattle.validate.specs.declared.fault.ValidatorFault.TheVariants.{NoSubject, NoObject, Literal, NoNode, NoLabel, FewStrata, NoStratification, ShortTable, Store}

abbrev pub code : ValidatorFault → Refusal
code NoSubject = (Validator, 7)
code NoObject = (Validator, 8)
code Literal = (Validator, 9)
code NoNode = (Validator, 7)
code NoLabel = (Validator, 14)
code FewStrata = (Validator, 15)
code NoStratification = (Validator, 16)
code ShortTable = (Validator, 17)
code (Store f) = store.code f

abbrev pub told : {A : Type 0} → Result A ValidatorFault → Result A Refusal
told (Ok x) = Ok x
told (Err f) = Err (code f)
