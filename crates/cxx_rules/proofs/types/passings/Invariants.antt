use Rattle.std.proofs.Common.{◌≡◌, ◌++◌, drop, map}
use Rattle.cxx_ast.specs.TypeNames.{passing}
use Rattle.cxx_rules.proofs.types.passings.Given as goal

abbrev pub invariant-loop-param : goal.invariant-loop-param
invariant-loop-param l = l.passings.items ++ map (passing l.env l.scope) (drop l.param-index l.params) ≡ map (passing l.env l.scope) l.params
