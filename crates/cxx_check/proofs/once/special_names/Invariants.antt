use Rattle.std.proofs.Common.{◌≡◌, ◌++◌, ◌∷◌, drop, map, codes}
use Rattle.cxx_ast.specs.DeclaredNames.{class_names}
use Rattle.cxx_ast.specs.View.{declaration_of}
use Rattle.cxx_check.proofs.once.special_names.Given as goal

abbrev pub invariant-loop-d : goal.invariant-loop-d
invariant-loop-d l =
    l.texts ++ class_names (map declaration_of (drop l.d-index l.decls)) ≡ codes "main" ∷ class_names (map declaration_of l.decls)
