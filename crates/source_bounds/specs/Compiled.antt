-- What is compiled of a checked program, pass by pass up to the linker.
use Rattle.cxx_ast.specs.Plain.{Checked}
use Rattle.eh_bytes.specs.Listed.{ListedUnit}
use Rattle.region_forms.specs.Layout.{layout_of}
use Rattle.region_forms.specs.LowerProgram.{regions_of}
use Rattle.linear_forms.specs.Linear.{UnitCode}
use Rattle.linear_forms.specs.Unit.{unit_of}
use Rattle.machine_forms.specs.Emitted.{emitted_of}

-- the linear code of a program
abbrev pub unit_for : Checked → UnitCode
unit_for p = unit_of (regions_of p (layout_of p))

-- its machine code, with tables
abbrev pub emitted_for : Checked → ListedUnit
emitted_for p = emitted_of (unit_for p)
