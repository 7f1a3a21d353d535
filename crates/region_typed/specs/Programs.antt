-- That checked programs are typed.
use Rattle.cxx_ast.specs.Plain.{Checked}
use Rattle.cxx_ast.specs.Checked.{IsChecked}
use Rattle.region_forms.specs.Layout.{layout_of}
use Rattle.region_statements.specs.Whole.{IsTypedProgram}

-- by its layout, whatever is asked of a program whose regions are to mean what it means
abbrev pub CheckedProgramsAreTyped : Type 0
CheckedProgramsAreTyped = (p : Checked) → IsChecked p → IsTypedProgram p (layout_of p)
