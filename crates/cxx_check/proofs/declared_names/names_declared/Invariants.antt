use Rattle.std.proofs.Common.{◌≡◌, ◌++◌, drop, map, flat_map}
use Rattle.cxx_ast.specs.DeclaredNames.{names_declared}
use Rattle.cxx_ast.specs.View.{declaration_of}
use Rattle.cxx_check.specs.OwnParts.{names_now}
use Rattle.cxx_check.proofs.declared_names.names_declared.Given as goal

abbrev pub invariant-loop-d : goal.invariant-loop-d
invariant-loop-d l =
    names_now l.names.items ++ flat_map names_declared (map declaration_of (drop l.d-index l.decls))
    ≡ flat_map names_declared (map declaration_of l.decls)
