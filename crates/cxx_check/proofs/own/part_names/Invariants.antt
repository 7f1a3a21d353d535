use Rattle.std.proofs.Common.{◌≡◌, ◌++◌, drop, map}
use Rattle.cxx_ast.specs.ClassRules.{method_names}
use Rattle.cxx_ast.specs.Declare.{name_of}
use Rattle.cxx_ast.specs.View.{function_of}
use Rattle.cxx_check.specs.OwnParts.{names_now}
use Rattle.cxx_check.proofs.own.part_names.Given as goal

abbrev pub invariant-loop-member : goal.invariant-loop-member
invariant-loop-member l = names_now l.names.items ++ map name_of (drop l.member-index l.members) ≡ map name_of l.members

abbrev pub invariant-loop-f : goal.invariant-loop-f
invariant-loop-f l =
    names_now l.names.items ++ method_names (map function_of (drop l.f-index l.funcs))
    ≡ names_now l.initial.names.items ++ method_names (map function_of l.funcs)
