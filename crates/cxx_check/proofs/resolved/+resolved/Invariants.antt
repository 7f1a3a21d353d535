use Rattle.std.proofs.Common.{◌≡◌, drop}
use Rattle.cxx_ast.specs.Resolve.{resolve_expressions}
use Rattle.cxx_ast.specs.View.{expressions_of}
use Rattle.cxx_check.specs.Joined.{expressions_joined}
use Rattle.cxx_check.proofs.resolved.+resolved.Given as goal

abbrev pub invariant-resolve_expressions-loop-e : goal.invariant-resolve_expressions-loop-e
invariant-resolve_expressions-loop-e l =
    expressions_joined l.given.items (resolve_expressions l.env l.scope (expressions_of (drop l.e-index l.es)))
    ≡ resolve_expressions l.env l.scope (expressions_of l.es)
