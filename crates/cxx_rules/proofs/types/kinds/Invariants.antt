use Rattle.std.proofs.Common.{◌≡◌, ◌++◌, drop, map}
use Rattle.cxx_ast.specs.TypeNames.{type_kind}
use Rattle.cxx_rules.specs.KindOf.{kind_of}
use Rattle.cxx_rules.proofs.types.kinds.Given as goal

abbrev pub invariant-loop-ty : goal.invariant-loop-ty
invariant-loop-ty l = map kind_of l.kinds.items ++ map (type_kind l.env l.scope) (drop l.ty-index l.types) ≡ map (type_kind l.env l.scope) l.types
