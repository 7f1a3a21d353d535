use Rattle.std.proofs.Common.{◌≡◌, drop}
use Rattle.cxx_ast.specs.View.{statements_of, handlers_of}
use Rattle.cxx_check.specs.Measured.{statements_behind, handlers_behind}
use Rattle.cxx_check.proofs.variables.+statements.Given as goal

abbrev pub invariant-statements-loop-s : goal.invariant-statements-loop-s
invariant-statements-loop-s l = statements_behind l.env l.measure (statements_of (drop l.s-index l.ss)) ≡ statements_behind l.env l.initial.measure (statements_of l.ss)

abbrev pub invariant-handlers-loop-h : goal.invariant-handlers-loop-h
invariant-handlers-loop-h l = handlers_behind l.env l.measure (handlers_of (drop l.h-index l.hs)) ≡ handlers_behind l.env l.initial.measure (handlers_of l.hs)
