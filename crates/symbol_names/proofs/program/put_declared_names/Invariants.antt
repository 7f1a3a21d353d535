use Rattle.std.proofs.Common.{◌≡◌, ◌++◌, length, map}
use Rattle.cxx_ast.specs.View.{function_of}
use Rattle.symbol_names.specs.Names.{declared_names}
use Rattle.symbol_names.proofs.program.put_declared_names.Given as goal

abbrev pub invariant-functions : goal.invariant-functions
invariant-functions l =
    l.initial.names.items ++ declared_names l.class l.class_name (map function_of l.functions) ≡ l.names.items ++ declared_names l.class l.class_name (map function_of l.rest)

abbrev pub decreases-functions : goal.decreases-functions
decreases-functions l = length l.rest
