-- That each callee of a program has its number among the functions of regions that the program is lowered to.
use Rattle.std.specs.Prelude.{◌≡◌}
use Rattle.cxx_ast.specs.declared.declaration.FuncKind.TheVariants.{Plain}
use Rattle.cxx_ast.specs.Plain.{Checked}
use Rattle.meaning_forms.specs.Class.{function_at}
use Rattle.region_forms.specs.Layout.{Layout}
use Rattle.region_forms.specs.LowerProgram.{regions_of}
use Rattle.region_statements.specs.Whole.{AreLowered}

abbrev pub ProgramsAreLowered : Type 0
ProgramsAreLowered = (p : Checked) (layout : Layout) → (function_at p p.main).kind ≡ Plain → AreLowered p layout (regions_of p layout)
