-- A buffer whose first half takes the properties and whose second half the objects of arcs. Assumes nothing.
--     laid buffer half arcs     the buffer once these arcs are laid down; what lies behind them in each half stays
use Rattle.std.specs.Prelude.{ℕ, List, ◌++◌, take, drop}
use Rattle.triple.specs.Arcs.{Arc}
use Rattle.page.specs.Format.{over, properties_of, objects_of}

abbrev pub laid : List ℕ → ℕ → List Arc → List ℕ
laid buffer half arcs = over (take half buffer) (properties_of arcs) ++ over (drop half buffer) (objects_of arcs)
