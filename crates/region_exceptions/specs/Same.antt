-- A source that runs, and its regions.
use Rattle.std.specs.Prelude.{◌≡◌}
use Rattle.meaning_forms.specs.Running.{Running as SourceRunning}
use Rattle.region_forms.specs.Layout.{Layout}
use Rattle.region_forms.specs.Numbering.{type_rows}
use Rattle.region_forms.specs.Ending.{Running}
use Rattle.region_simulation.specs.Calls.{SameCalls}
use Rattle.region_exceptions.specs.Doomed.{AreOrdered}

-- they run alike: the types are those of the program, whose classes are in order, and calls do the same
pub record RunAlike (l : Layout) (a : SourceRunning) (b : Running) : Type 0 where
  pub types : b.types ≡ type_rows a.program
  pub ordered : AreOrdered a.program
  pub calls : SameCalls l a b
