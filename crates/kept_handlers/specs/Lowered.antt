-- That the regions of programs open and leave handlers in step.
use Rattle.std.specs.Prelude.{◌≡◌, true}
use Rattle.cxx_ast.specs.Plain.{Checked}
use Rattle.region_forms.specs.Layout.{Layout}
use Rattle.region_forms.specs.LowerProgram.{regions_of}
use Rattle.kept_handlers.specs.Left.{are_in_step}

-- those of every program, by any layout
abbrev pub LoweredAreInStep : Type 0
LoweredAreInStep = (p : Checked) (l : Layout) → are_in_step (regions_of p l) ≡ true
