use Rattle.std.proofs.Common.{◌≡◌, ◌++◌, drop, map}
use Rattle.cxx_ast.specs.Declare.{bare_signature}
use Rattle.cxx_ast.specs.View.{function_of}
use Rattle.cxx_check.proofs.class_head.bare_signatures.Given as goal

abbrev pub invariant-loop-f : goal.invariant-loop-f
invariant-loop-f l = l.signatures.items ++ map bare_signature (map function_of (drop l.f-index l.funcs)) ≡ map bare_signature (map function_of l.funcs)
