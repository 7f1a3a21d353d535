use Rattle.std.proofs.Common.{◌≡◌, drop}
use Rattle.cxx_ast.specs.View.{expressions_of}
use Rattle.cxx_check.specs.Measured.{arguments_behind}
use Rattle.cxx_check.proofs.measure.+expressions.Given as goal

abbrev pub invariant-arguments-loop-e : goal.invariant-arguments-loop-e
invariant-arguments-loop-e l = arguments_behind l.measure (expressions_of (drop l.e-index l.es)) ≡ arguments_behind l.initial.measure (expressions_of l.es)
