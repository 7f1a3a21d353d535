use Rattle.std.proofs.Common.{◌≡◌, ◌++◌, drop, map}
use Rattle.cxx_ast.specs.Environment.{Environment}
use Rattle.cxx_ast.specs.View.{function_of}
use Rattle.cxx_check.specs.HeadingOf.{heading_of, method_heading}
use Rattle.cxx_check.specs.TreeParts.{methods_tree}
use Rattle.cxx_check.proofs.tree.methods_tree.Given as goal

abbrev pub invariant-loop-i : goal.invariant-loop-i
invariant-loop-i l =
    (head : Environment) → map heading_of l.headings ≡ map (method_heading head l.class) (map function_of l.funcs) →
    map function_of l.rebuilt.items ++ methods_tree head l.env l.class l.i (map function_of (drop l.i l.funcs))
    ≡ methods_tree head l.env l.class 0 (map function_of l.funcs)
