-- What a function's lowering and a call are given.
use Rattle.std.specs.Prelude.{ℕ, map}
use Rattle.cxx_ast.specs.declared.name.Bound.{Bound}
use Rattle.cxx_ast.specs.declared.name.Bound.TheVariants.{Field}
use Rattle.cxx_ast.specs.View.{checked_of}
use Rattle.class_layout.specs.View.{laid_out}
use Rattle.region_forms.specs.Layout.{laid_member}
use Rattle.region_forms.specs.LowerExpression.{Lowering}
use Rattle.region_ir.specs.declared.lowering.Lowering.{Lowering as LoweringValue}
use Rattle.region_ir.specs.Variables.{type_in}

-- what a function's lowering is given
abbrev pub lowering_of : LoweringValue → Lowering
lowering_of l = record {
  program = checked_of l.numbering.now.program.now;
  layout = laid_out l.layout.now;
  variables = map type_in l.variables.now;
  first_variable = l.first_variable;
}

-- how far what a name names after a dot lies behind its object
abbrev pub offset_named : Lowering → Bound → ℕ
offset_named l (Field k i) = laid_member l.layout k i
offset_named l _ = 0
