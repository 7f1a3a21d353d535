-- What is asked of the tables of a unit.
use Rattle.std.specs.Prelude.{◌<◌, ℕ, length}
use Rattle.cxx_ast.specs.Checked.{IsChecked}
use Rattle.cxx_ast.specs.Plain.{Checked}
use Rattle.region_forms.specs.Form.{Regions}
use Rattle.region_forms.specs.Layout.{Layout}
use Rattle.region_forms.specs.LowerProgram.{regions_of}
use Rattle.linear_forms.specs.Unit.{unit_of}
use Rattle.table_verdicts.specs.Asked.{ListsNameTypes}
use Rattle.table_verdicts.specs.Types.{ChainEnds}

-- Of every program of regions the lists of specifications name types. Of every checked program, by any layout of its classes, each chain of
-- bases ends as the runtime needs it.
pub record CheckedTablesAreAsked : Type 0 where
  pub lists : (r : Regions) → ListsNameTypes (unit_of r)
  pub chains : (p : Checked) (l : Layout) (t : ℕ) → IsChecked p → t < length (unit_of (regions_of p l)).types → ChainEnds (unit_of (regions_of p l)).types t
