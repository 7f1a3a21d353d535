use Rattle.std.proofs.Common.{◌≡◌, ◌++◌, drop, map}
use Rattle.cxx_ast.specs.View.{function_of}
use Rattle.cxx_check.specs.HeadingOf.{heading_of, method_heading}
use Rattle.cxx_check.proofs.heading.bound_heads.Given as goal

abbrev pub invariant-loop-f : goal.invariant-loop-f
invariant-loop-f l =
    map heading_of l.heads.items ++ map (method_heading l.env l.class) (map function_of (drop l.f-index l.funcs))
    ≡ map (method_heading l.env l.class) (map function_of l.funcs)
