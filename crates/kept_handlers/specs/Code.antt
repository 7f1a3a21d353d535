-- That the linear code of a program opens and leaves handlers in step.
use Rattle.std.specs.Prelude.{◌≡◌, true}
use Rattle.region_forms.specs.Form.{Regions}
use Rattle.linear_forms.specs.Unit.{unit_of}
use Rattle.linear_forms.specs.UnitRun.{code_of}
use Rattle.kept_handlers.specs.Left.{are_in_step}
use Rattle.kept_handlers.specs.Depths.{Depths, CodeOpens}

-- every program does whose regions do
abbrev pub ProgramsOpen : Type 0
ProgramsOpen = (r : Regions) → are_in_step r ≡ true → (d : Depths) × CodeOpens (code_of (unit_of r)) d
