use Rattle.std.proofs.Common.{◌≡◌, drop, map}
use Rattle.cxx_ast.specs.View.{declaration_of}
use Rattle.cxx_check.specs.Whole.{declarations_behind}
use Rattle.cxx_check.proofs.declared.declarations.Given as goal

abbrev pub invariant-loop-d : goal.invariant-loop-d
invariant-loop-d l = record {
  found : declarations_behind l.found l.env (map declaration_of (drop l.d-index l.decls)) ≡ declarations_behind l.initial.found l.initial.env (map declaration_of l.decls);
  definitions : l.env.definitions ≡ l.initial.env.definitions;
}
