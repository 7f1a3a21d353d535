use Rattle.std.proofs.Common.{◌≡◌, drop}
use Rattle.cxx_ast.specs.Locals.{declare_params}
use Rattle.cxx_rules.proofs.function.declare_params.Given as goal

abbrev pub invariant-loop-param : goal.invariant-loop-param
invariant-loop-param l = declare_params l.env (drop l.param-index l.params) l.scope ≡ declare_params l.env l.params l.initial.scope
