use Rattle.std.proofs.Common.{◌≡◌, drop, map}
use Rattle.cxx_ast.specs.Standards.{noexcepts_found}
use Rattle.cxx_ast.specs.View.{declaration_of}
use Rattle.cxx_rules.specs.Folds.{each_behind}
use Rattle.cxx_check.proofs.standards.noexcepts_found.Given as goal

abbrev pub invariant-loop-d : goal.invariant-loop-d
invariant-loop-d l =
    each_behind l.env (noexcepts_found) l.found (map declaration_of (drop l.d-index l.decls))
    ≡ each_behind l.env (noexcepts_found) l.initial.found (map declaration_of l.decls)
