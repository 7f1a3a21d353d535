use Rattle.std.proofs.Common.{◌≡◌, ◌++◌, map}
use Rattle.cxx_ast.specs.Settled.{settle_function}
use Rattle.cxx_ast.specs.View.{function_of}
use Rattle.cxx_check.specs.HeadingOf.{some_specification}
use Rattle.cxx_check.proofs.settled.settle_functions.Given as goal

abbrev pub invariant-loop-f : goal.invariant-loop-f
invariant-loop-f l =
    map function_of l.settled.items ++ map (settle_function (some_specification l.own)) (map function_of l.f-iterator.rest.items)
    ≡ map (settle_function (some_specification l.own)) (map function_of l.initial.f-iterator.rest.items)
