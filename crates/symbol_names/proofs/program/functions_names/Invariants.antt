use Rattle.std.proofs.Common.{◌≡◌, ◌++◌, ◌-◌}
use Rattle.cxx_ast.specs.View.{checked_of}
use Rattle.symbol_names.specs.Names.{own_names, classes_names}
use Rattle.symbol_names.proofs.program.functions_names.Given as goal

abbrev pub invariant-loop-class : goal.invariant-loop-class
invariant-loop-class l =
    l.names.items ++ classes_names (checked_of l.program) l.class (l.count - l.class) ≡
    own_names (checked_of l.program).main 0 (checked_of l.program).functions ++ classes_names (checked_of l.program) 0 l.count
