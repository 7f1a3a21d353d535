use Rattle.std.proofs.Common.{◌≡◌, drop}
use Rattle.cxx_ast.specs.TypeNames.{type_found}
use Rattle.cxx_rules.specs.Folds.{each_behind}
use Rattle.cxx_rules.proofs.types.params_found.Given as goal

abbrev pub invariant-loop-param : goal.invariant-loop-param
invariant-loop-param l =
    each_behind l.env (λ p. type_found l.env l.scope p.ty) l.found (drop l.param-index l.params)
    ≡ each_behind l.env (λ p. type_found l.env l.scope p.ty) l.initial.found l.params
