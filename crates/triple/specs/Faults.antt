-- Which layer and number each fault of a store stands for. Assumes nothing.
--     code f       the layer and the number of the fault f
--     refusal r    how the answer r of a put or a take refuses, if it does
use Rattle.std.specs.Prelude.{Some, None, Ok, Err, Option, Result}
use Rattle.refusal.specs.declared.Layer.TheVariants.{Store}
use Rattle.refusal.specs.Refusals.{Refusal}
use Rattle.triple.specs.declared.fault.StoreFault.{StoreFault}
use Rattle.triple.specs.declared.fault.StoreFault.TheVariants.{NoSubject, NoObject, Present, FullNode, FullStore, Absent}

abbrev pub code : StoreFault → Refusal
code NoSubject = (Store, 7)
code NoObject = (Store, 8)
code Present = (Store, 10)
code FullNode = (Store, 11)
code FullStore = (Store, 12)
code Absent = (Store, 13)

abbrev pub refusal : {A : Type 0} → Result A StoreFault → Option Refusal
refusal (Ok x) = None
refusal (Err f) = Some (code f)
