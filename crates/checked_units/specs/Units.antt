-- What the simulation of operations asks of a unit.
use Rattle.std.specs.Prelude.{◌^◌, ◌<◌}
use Rattle.std.specs.List.{AllByRecursion}
use Rattle.cxx_ast.specs.Checked.{IsChecked}
use Rattle.cxx_ast.specs.Plain.{Checked}
use Rattle.linear_forms.specs.Linear.{UnitCode}
use Rattle.machine_forms.specs.Bounds.{LinearFits}
use Rattle.source_bounds.specs.Compiled.{unit_for}
use Rattle.machine_pieces.specs.UnitAt.{whole_words}
use Rattle.machine_simulation.specs.Matches.{FrameIs}

-- few words, frames as they are laid out, and registers that suffice
pub record IsAsked (u : UnitCode) : Type 0 where
  pub few : whole_words u < 2 ^ 28
  pub frames : AllByRecursion FrameIs u.functions
  pub registers : AllByRecursion (λ g. AllByRecursion LinearFits g.ops) u.functions

-- so of the unit of every checked program
abbrev pub CheckedUnitsAreAsked : Type 0
CheckedUnitsAreAsked = (p : Checked) → IsChecked p → IsAsked (unit_for p)
