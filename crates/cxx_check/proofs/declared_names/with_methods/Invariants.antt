use Rattle.std.proofs.Common.{◌≡◌, ◌++◌, drop, map}
use Rattle.cxx_ast.specs.ClassRules.{method_names}
use Rattle.cxx_ast.specs.View.{function_of}
use Rattle.cxx_check.specs.OwnParts.{names_now}
use Rattle.cxx_check.proofs.declared_names.with_methods.Given as goal

abbrev pub invariant-loop-f : goal.invariant-loop-f
invariant-loop-f l =
    names_now l.names.items ++ method_names (map function_of (drop l.f-index l.funcs))
    ≡ names_now l.initial.names.items ++ method_names (map function_of l.funcs)
