use Rattle.std.proofs.Common.{◌≡◌, ◌++◌, drop}
use Rattle.cxx_ast.specs.DeclaredNames.{names_of, names_caught}
use Rattle.cxx_ast.specs.View.{statements_of, handlers_of}
use Rattle.cxx_check.specs.OwnParts.{names_now}
use Rattle.cxx_check.proofs.declared_names.+names.Given as goal

abbrev pub invariant-with_statements-loop-s : goal.invariant-with_statements-loop-s
invariant-with_statements-loop-s l =
    names_now l.names.items ++ names_of (statements_of (drop l.s-index l.ss)) ≡ names_now l.initial.names.items ++ names_of (statements_of l.ss)

abbrev pub invariant-with_handlers-loop-h : goal.invariant-with_handlers-loop-h
invariant-with_handlers-loop-h l =
    names_now l.names.items ++ names_caught (handlers_of (drop l.h-index l.hs)) ≡ names_now l.initial.names.items ++ names_caught (handlers_of l.hs)
