-- What the calls of laws state of checked programs.
use Rattle.cxx_ast.specs.Checked.{IsChecked}
use Rattle.cxx_ast.specs.Plain.{Checked}
use Rattle.region_forms.specs.Layout.{layout_of}
use Rattle.region_forms.specs.LowerProgram.{regions_of}
use Rattle.linear_forms.specs.Unit.{unit_of}
use Rattle.linear_forms.specs.UnitRun.{code_of}
use Rattle.flight_homes.specs.Keeps.{Carrying}
use Rattle.flight_homes.specs.Laws.{AreCarrying}
use Rattle.flight_homes.specs.Lives.{known_in}
use Rattle.linear_invariant.specs.Code.{CodeFits}

-- the code of every checked program is as asked, with the places at which its calls carry
abbrev pub CheckedProgramsFit : Type 0
CheckedProgramsFit = (p : Checked) → IsChecked p → let r = regions_of p (layout_of p) in (k : Carrying) × (AreCarrying r k × CodeFits (known_in r) (code_of (unit_of r)) k)
