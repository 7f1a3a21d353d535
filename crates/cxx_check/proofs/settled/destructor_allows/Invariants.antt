use Rattle.std.proofs.Common.{◌≡◌, drop, map}
use Rattle.cxx_ast.specs.Settled.{destructor_of}
use Rattle.cxx_ast.specs.View.{function_of}
use Rattle.cxx_check.specs.HeadingOf.{some_specification}
use Rattle.cxx_check.proofs.settled.destructor_allows.Given as goal

abbrev pub invariant-loop-f : goal.invariant-loop-f
invariant-loop-f l =
    destructor_of (some_specification l.own) (map function_of (drop l.f-index l.funcs)) ≡ destructor_of (some_specification l.own) (map function_of l.funcs)
