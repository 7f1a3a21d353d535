use Rattle.std.proofs.Common.{◌≡◌, ◌++◌, drop, map}
use Rattle.cxx_ast.specs.View.{checked_of, function_of as function_meant}
use Rattle.class_layout.specs.View.{laid_out}
use Rattle.region_forms.specs.LowerProgram.{own_functions}
use Rattle.region_ir.specs.View.{function_of}
use Rattle.region_ir.proofs.lowered.own_functions.Given as goal

abbrev pub invariant-loop-number : goal.invariant-loop-number
invariant-loop-number l =
    map function_of l.functions.items
    ++ own_functions (checked_of l.source.numbering.now.program.now) (laid_out l.source.layout.now) l.number (map function_meant (drop l.number l.declared))
    ≡ own_functions (checked_of l.source.numbering.now.program.now) (laid_out l.source.layout.now) 0 (map function_meant l.declared)
