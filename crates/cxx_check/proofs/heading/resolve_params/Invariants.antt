use Rattle.std.proofs.Common.{◌≡◌, ◌++◌, drop}
use Rattle.cxx_ast.specs.Resolve.{resolve_params}
use Rattle.cxx_check.proofs.heading.resolve_params.Given as goal

abbrev pub invariant-loop-param : goal.invariant-loop-param
invariant-loop-param l =
    l.rebuilt.items ++ resolve_params l.env l.scope (drop l.param-index l.params) ≡ resolve_params l.env l.initial.scope l.params
