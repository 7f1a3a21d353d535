use Rattle.std.proofs.Common.{◌≡◌, drop, map}
use Rattle.cxx_ast.specs.Declare.{next_class, declare_behind}
use Rattle.cxx_ast.specs.Environment.{Environment}
use Rattle.cxx_ast.specs.Plain.{Class, class_declaration}
use Rattle.cxx_ast.specs.View.{function_of}
use Rattle.cxx_check.specs.ClassParts.{method_inside}
use Rattle.cxx_rules.specs.Folds.{each_behind}
use Rattle.cxx_check.proofs.class.insides_found.Given as goal

abbrev pub invariant-loop-f : goal.invariant-loop-f
invariant-loop-f l =
    (old : Environment) (c : Class) → next_class old ≡ l.number → l.env ≡ declare_behind old (class_declaration c) →
    each_behind l.env (method_inside old c) l.found (map function_of (drop l.f-index l.funcs))
    ≡ each_behind l.env (method_inside old c) l.initial.found (map function_of l.funcs)
