use Rattle.std.proofs.Common.{◌≡◌, drop, map}
use Rattle.cxx_ast.specs.View.{function_of}
use Rattle.region_forms.specs.LowerProgram.{some_constructor}
use Rattle.symbol_names.proofs.program.some_constructor.Given as goal

abbrev pub invariant-loop-function : goal.invariant-loop-function
invariant-loop-function l =
    some_constructor (map function_of l.functions) ≡ some_constructor (map function_of (drop l.function-index l.functions))
