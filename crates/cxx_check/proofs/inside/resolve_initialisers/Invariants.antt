use Rattle.std.proofs.Common.{◌≡◌, ◌++◌, drop, map}
use Rattle.cxx_ast.specs.Resolve.{resolve_initialiser}
use Rattle.cxx_ast.specs.View.{initialiser_of}
use Rattle.cxx_check.proofs.inside.resolve_initialisers.Given as goal

abbrev pub invariant-loop-i : goal.invariant-loop-i
invariant-loop-i l =
    map initialiser_of l.rebuilt.items ++ map (resolve_initialiser l.env l.scope) (map initialiser_of (drop l.i-index l.inits))
    ≡ map (resolve_initialiser l.env l.scope) (map initialiser_of l.inits)
