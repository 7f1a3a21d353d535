use Rattle.std.proofs.Common.{◌≡◌, drop}
use Rattle.cxx_ast.specs.TypeNames.{type_found}
use Rattle.cxx_rules.specs.Folds.{each_behind}
use Rattle.cxx_rules.proofs.types.types_found.Given as goal

abbrev pub invariant-loop-ty : goal.invariant-loop-ty
invariant-loop-ty l = each_behind l.env (type_found l.env l.scope) l.found (drop l.ty-index l.types) ≡ each_behind l.env (type_found l.env l.scope) l.initial.found l.types
