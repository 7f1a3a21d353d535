use Rattle.std.proofs.Common.{◌≡◌, ◌++◌, drop, map}
use Rattle.cxx_ast.specs.Declare.{definitions}
use Rattle.cxx_ast.specs.View.{declaration_of}
use Rattle.cxx_check.proofs.refused.definitions.Given as goal

abbrev pub invariant-loop-d : goal.invariant-loop-d
invariant-loop-d l = l.texts ++ definitions (map declaration_of (drop l.d-index l.decls)) ≡ definitions (map declaration_of l.decls)
