use Rattle.std.proofs.Common.{◌≡◌, ◌++◌, drop, map}
use Rattle.cxx_ast.specs.Checked.{resolve_declarations}
use Rattle.cxx_ast.specs.View.{declaration_of}
use Rattle.cxx_check.proofs.declared_tree.declarations_bound.Given as goal

abbrev pub invariant-loop-d : goal.invariant-loop-d
invariant-loop-d l =
    map declaration_of l.rebuilt.items ++ resolve_declarations l.env (map declaration_of (drop l.d-index l.decls))
    ≡ resolve_declarations l.initial.env (map declaration_of l.decls)
