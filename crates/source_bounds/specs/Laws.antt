-- What the calls of laws state of the units of checked programs, part by part of what a linker needs.
use Rattle.std.specs.Prelude.{◌+◌, ◌*◌, ◌<◌, ◌≤◌, length}
use Rattle.std.specs.List.{AllByRecursion}
use Rattle.cxx_ast.specs.Checked.{IsChecked}
use Rattle.cxx_ast.specs.Plain.{Checked}
use Rattle.linear_forms.specs.Linear.{UnitCode}
use Rattle.machine_forms.specs.Bounds.{IsBounded}
use Rattle.machine_forms.specs.Emitted.{emitted_of}
use Rattle.image_forms.specs.Function.{FunctionFits, StandInRow}
use Rattle.image_forms.specs.Linkable.{BaseIsThere, IsLinkable}
use Rattle.image_forms.specs.Room.{unit_room, symbols_room}
use Rattle.source_bounds.specs.Compiled.{unit_for, emitted_for}

-- a unit has the tokens of its source, and that has at most so many
abbrev pub TokensAreFew : Type 0
TokensAreFew = (p : Checked) → IsChecked p → (emitted_for p).tokens ≤ 65536

-- the base of a type is one of the types
abbrev pub BasesAreThere : Type 0
BasesAreThere = (p : Checked) → IsChecked p → AllByRecursion (λ t. BaseIsThere (length (emitted_for p).types) t.base) (emitted_for p).types

-- the first two types are int and `std::bad_exception`
abbrev pub BadExceptionIsThere : Type 0
BadExceptionIsThere = (p : Checked) → IsChecked p → 1 < length (emitted_for p).types

-- functions stand in a row in the code of any unit
abbrev pub FunctionsStandInRow : Type 0
FunctionsStandInRow = (u : UnitCode) → StandInRow 0 (length (emitted_of u).code) (emitted_of u).functions

-- functions are as the writers of tables and frames need them
abbrev pub FunctionsFit : Type 0
FunctionsFit = (p : Checked) → IsChecked p → AllByRecursion (FunctionFits (length (emitted_for p).types)) (emitted_for p).functions

-- frames are small, and words few, though a call of one of the runtime's own functions counts as 257
abbrev pub UnitsAreBounded : Type 0
UnitsAreBounded = (p : Checked) → IsChecked p → IsBounded (unit_for p)

-- a unit takes few bytes of an image, with its symbols
abbrev pub RoomIsSmall : Type 0
RoomIsSmall = (p : Checked) → IsChecked p → unit_room (emitted_for p) + symbols_room (emitted_for p) ≤ 768 * (emitted_for p).tokens + 65536

-- so a linker has all that it needs for a clean and runnable image
abbrev pub CheckedIsLinkable : Type 0
CheckedIsLinkable = (p : Checked) → IsChecked p → IsLinkable (emitted_for p)
