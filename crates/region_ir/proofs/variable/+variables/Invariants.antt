use Rattle.std.proofs.Common.{◌≡◌, ◌++◌, drop, map}
use Rattle.cxx_ast.specs.View.{statements_of, handlers_of}
use Rattle.region_forms.specs.Numbering.{all_declared_in, declared_in_handlers}
use Rattle.region_ir.specs.Variables.{type_in}
use Rattle.region_ir.proofs.variable.+variables.Given as goal

abbrev pub invariant-with_statements-loop-s : goal.invariant-with_statements-loop-s
invariant-with_statements-loop-s l =
    map type_in l.variables.items ++ all_declared_in (statements_of (drop l.s-index l.ss)) ≡ map type_in l.initial.variables.items ++ all_declared_in (statements_of l.ss)

abbrev pub invariant-with_handlers-loop-h : goal.invariant-with_handlers-loop-h
invariant-with_handlers-loop-h l =
    map type_in l.variables.items ++ declared_in_handlers (handlers_of (drop l.h-index l.hs)) ≡ map type_in l.initial.variables.items ++ declared_in_handlers (handlers_of l.hs)
