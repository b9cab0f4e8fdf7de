-- What each fault of a page stands for. Assumes nothing.
--     Place      what a fault names beside its number: nothing, a node, or an entry with the refusal of its add
--     Told       a refusal with what it names
--     code f     the layer, the number and the place of the fault f
--     told r     an answer, with its fault so told
use Rattle.std.specs.Prelude.{ℕ, Ok, Err, Result}
use Rattle.refusal.specs.declared.Layer.TheVariants.{Page}
use Rattle.refusal.specs.Refusals.{Refusal}
use Rattle.validate.specs.Faults as validator
use Rattle.page.specs.declared.fault.PageFault.{PageFault}
use Rattle.page.specs.declared.fault.PageFault.TheVariants.{Short, OtherCount, Fan, Length, Add, SmallBuffer}

pub data Place : Type 0 where
  nothing : Place
  node : ℕ → Place
  entry : ℕ → Refusal → Place

abbrev pub Told : Type 0
Told = Refusal × Place

abbrev pub code : PageFault → Told
code Short = ((Page, 18), nothing)
code OtherCount = ((Page, 19), nothing)
code (Fan n) = ((Page, 20), node n)
code Length = ((Page, 21), nothing)
code (Add e) = ((Page, 22), entry e.at (validator.code e.fault))
code SmallBuffer = ((Page, 23), nothing)

abbrev pub told : {A : Type 0} → Result A PageFault → Result A Told
told (Ok x) = Ok x
told (Err f) = Err (code f)
