use Rattle.std.proofs.Common.{◌≡◌, drop, map}
use Rattle.cxx_ast.specs.Standards.{noexcept_found}
use Rattle.cxx_ast.specs.View.{function_of}
use Rattle.cxx_rules.specs.Folds.{each_behind}
use Rattle.cxx_check.proofs.standards.methods_found.Given as goal

abbrev pub invariant-loop-f : goal.invariant-loop-f
invariant-loop-f l =
    each_behind l.env (λ f. noexcept_found f.specification) l.found (map function_of (drop l.f-index l.funcs))
    ≡ each_behind l.env (λ f. noexcept_found f.specification) l.initial.found (map function_of l.funcs)
