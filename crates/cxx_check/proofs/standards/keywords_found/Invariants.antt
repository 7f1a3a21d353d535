use Rattle.std.proofs.Common.{◌≡◌, drop}
use Rattle.cxx_ast.specs.Standards.{keyword_found}
use Rattle.cxx_check.specs.OwnParts.{names_now}
use Rattle.cxx_rules.specs.Folds.{each_behind}
use Rattle.cxx_check.proofs.standards.keywords_found.Given as goal

abbrev pub invariant-loop-name : goal.invariant-loop-name
invariant-loop-name l =
    each_behind l.env (keyword_found) l.found (names_now (drop l.name-index l.names))
    ≡ each_behind l.env (keyword_found) l.initial.found (names_now l.names)
