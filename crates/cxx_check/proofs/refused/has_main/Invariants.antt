use Rattle.std.proofs.Common.{◌≡◌, drop, map}
use Rattle.cxx_ast.specs.Broken.{has_main}
use Rattle.cxx_ast.specs.View.{declaration_of}
use Rattle.cxx_check.proofs.refused.has_main.Given as goal

abbrev pub invariant-loop-d : goal.invariant-loop-d
invariant-loop-d l = has_main (map declaration_of (drop l.d-index l.decls)) ≡ has_main (map declaration_of l.decls)
