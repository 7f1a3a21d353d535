use Rattle.std.proofs.Common.{◌≡◌, ◌++◌, drop, map}
use Rattle.cxx_ast.specs.Resolve.{resolve_type}
use Rattle.cxx_check.proofs.heading.resolve_types.Given as goal

abbrev pub invariant-loop-ty : goal.invariant-loop-ty
invariant-loop-ty l = l.rebuilt.items ++ map (resolve_type l.env l.scope) (drop l.ty-index l.types) ≡ map (resolve_type l.env l.scope) l.types
