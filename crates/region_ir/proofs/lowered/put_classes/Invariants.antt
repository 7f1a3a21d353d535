use Rattle.std.proofs.Common.{◌≡◌, ◌++◌, ◌-◌, length, map}
use Rattle.cxx_ast.specs.View.{checked_of}
use Rattle.class_layout.specs.View.{laid_out}
use Rattle.region_forms.specs.LowerProgram.{functions_of_classes}
use Rattle.region_ir.specs.View.{function_of}
use Rattle.region_ir.proofs.lowered.put_classes.Given as goal

abbrev pub invariant-loop-number : goal.invariant-loop-number
invariant-loop-number l =
    map function_of l.functions.items
    ++ functions_of_classes (checked_of l.source.numbering.now.program.now) (laid_out l.source.layout.now) l.number (length l.classes - l.number)
    ≡ map function_of l.initial.functions.items
    ++ functions_of_classes (checked_of l.source.numbering.now.program.now) (laid_out l.source.layout.now) 0 (length l.classes)
