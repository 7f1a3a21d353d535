use Rattle.std.proofs.Common.{◌≡◌, ◌++◌, drop, map}
use Rattle.cxx_ast.specs.View.{function_of}
use Rattle.cxx_check.specs.ClassParts.{method_head_in, method_of_in}
use Rattle.cxx_rules.specs.Folds.{each_behind}
use Rattle.cxx_check.proofs.class_head.function_heads.Given as goal

abbrev pub invariant-loop-f : goal.invariant-loop-f
invariant-loop-f l = record {
  found :
      each_behind l.env (method_head_in l.env l.class) l.found (map function_of (drop l.f-index l.funcs))
      ≡ each_behind l.env (method_head_in l.env l.class) l.initial.found (map function_of l.funcs);
  signatures :
      l.signatures.items ++ map (method_of_in l.env l.class) (map function_of (drop l.f-index l.funcs))
      ≡ map (method_of_in l.env l.class) (map function_of l.funcs);
}
