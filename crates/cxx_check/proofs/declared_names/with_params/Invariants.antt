use Rattle.std.proofs.Common.{◌≡◌, ◌++◌, drop}
use Rattle.cxx_ast.specs.DeclaredNames.{param_names}
use Rattle.cxx_check.specs.OwnParts.{names_now}
use Rattle.cxx_check.proofs.declared_names.with_params.Given as goal

abbrev pub invariant-loop-param : goal.invariant-loop-param
invariant-loop-param l =
    names_now l.names.items ++ param_names (drop l.param-index l.params) ≡ names_now l.initial.names.items ++ param_names l.params
