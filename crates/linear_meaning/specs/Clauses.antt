-- In the regions of each checked program, by any layout, each region that catches has a clause: the grammar has no try block without a handler
-- (ISO/IEC 14882:2003, 15).
use Rattle.std.specs.Prelude.{◌≡◌, true}
use Rattle.cxx_ast.specs.Plain.{Checked}
use Rattle.cxx_ast.specs.Checked.{IsChecked}
use Rattle.region_forms.specs.Layout.{Layout}
use Rattle.region_forms.specs.LowerProgram.{regions_of}
use Rattle.linear_simulation.specs.FunctionsRun.{catches_have_clauses}

abbrev pub CheckedCatchesHaveClauses : Type 0
CheckedCatchesHaveClauses = (p : Checked) (l : Layout) → IsChecked p → catches_have_clauses (regions_of p l) ≡ true
