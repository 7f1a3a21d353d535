use Rattle.std.proofs.Common.{◌≡◌, ◌++◌, true, false, map, take}
use Rattle.cxx_ast.specs.View.{checked_of, function_of as function_meant}
use Rattle.class_layout.specs.View.{laid_out}
use Rattle.region_forms.specs.LowerProgram.{declared_function}
use Rattle.region_ir.specs.View.{function_of}
use Rattle.region_ir.proofs.lowered.put_methods.Given as goal

abbrev pub invariant-loop-method : goal.invariant-loop-method
invariant-loop-method l =
    map function_of l.functions.items
    ≡ map function_of l.initial.functions.items
    ++ map (declared_function (checked_of l.source.numbering.now.program.now) (laid_out l.source.layout.now) true false l.class) (map function_meant (take l.method-index l.methods))
