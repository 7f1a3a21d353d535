-- That a checked program is shallow.
use Rattle.std.specs.Prelude.{◌≡◌, true}
use Rattle.cxx_ast.specs.Checked.{IsChecked}
use Rattle.cxx_ast.specs.Plain.{Checked}
use Rattle.scope_meaning.specs.Levels.{is_shallow}

abbrev pub CheckedProgramsAreShallow : Type 0
CheckedProgramsAreShallow = (p : Checked) → IsChecked p → is_shallow p ≡ true
