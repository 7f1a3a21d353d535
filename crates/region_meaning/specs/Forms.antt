-- That the forms that raise exceptions, or clean up behind them, do the same in each function of a program, with calls of any fuel.
use Rattle.std.specs.Prelude.{◌≡◌, ℕ}
use Rattle.cxx_ast.specs.Checked.{IsChecked, bad_exception}
use Rattle.cxx_ast.specs.Plain.{Checked}
use Rattle.meaning_forms.specs.Class.{class_at}
use Rattle.region_forms.specs.Form.{Regions}
use Rattle.region_forms.specs.Layout.{Layout}
use Rattle.region_forms.specs.Numbering.{type_rows}
use Rattle.region_statements.specs.Whole.{SameForms}
use Rattle.region_exceptions.specs.Doomed.{AreOrdered}

-- the classes of a program stand in order, and the first is `std::bad_exception`
pub record IsOrderedProgram (p : Checked) : Type 0 where
  pub ordered : AreOrdered p
  pub first : class_at p 0 ≡ bad_exception

-- so it is of each checked program
abbrev pub CheckedProgramsAreOrdered : Type 0
CheckedProgramsAreOrdered = (p : Checked) → IsChecked p → IsOrderedProgram p

-- the forms are the same, in regions with the types of the program
abbrev pub FormsAreSame : Type 0
FormsAreSame =
    (p : Checked) (layout : Layout) (q : Regions) (limit : ℕ) → IsOrderedProgram p → q.types ≡ type_rows p → SameForms p layout q limit
