use Rattle.std.proofs.Common.{◌≡◌, ◌++◌, length, map}
use Rattle.cxx_ast.specs.View.{checked_of, function_of}
use Rattle.symbol_names.specs.Names.{own_names}
use Rattle.symbol_names.proofs.program.put_own_names.Given as goal

abbrev pub invariant-functions : goal.invariant-functions
invariant-functions l =
    l.initial.names.items ++ own_names (checked_of l.program).main 0 (checked_of l.program).functions ≡
    l.names.items ++ own_names (checked_of l.program).main l.number (map function_of l.rest)

abbrev pub decreases-functions : goal.decreases-functions
decreases-functions l = length l.rest
