use Rattle.std.proofs.Common.{◌≡◌, drop}
use Rattle.cxx_ast.specs.Locals.{after, locals_caught}
use Rattle.cxx_ast.specs.Resolve.{resolve_statements, resolve_handlers}
use Rattle.cxx_ast.specs.View.{statements_of, handlers_of}
use Rattle.cxx_check.specs.Joined.{statements_joined, handlers_joined}
use Rattle.cxx_rules.specs.Walk.{scope_after}
use Rattle.cxx_check.proofs.rebuilt_statement.+rebuilt.Given as goal

abbrev pub invariant-resolve_all-loop-s : goal.invariant-resolve_all-loop-s
invariant-resolve_all-loop-s l = record {
  rebuilt :
      statements_joined l.rebuilt.items (resolve_statements l.env l.scope (statements_of (drop l.s-index l.ss)))
      ≡ resolve_statements l.env l.initial.scope (statements_of l.ss);
  scope : scope_after l.env l.scope (statements_of (drop l.s-index l.ss)) ≡ scope_after l.env l.initial.scope (statements_of l.ss);
}

abbrev pub invariant-resolve_handlers-loop-h : goal.invariant-resolve_handlers-loop-h
invariant-resolve_handlers-loop-h l = record {
  rebuilt :
      handlers_joined l.rebuilt.items (resolve_handlers l.env l.scope (handlers_of (drop l.h-index l.hs)))
      ≡ resolve_handlers l.env l.initial.scope (handlers_of l.hs);
  scope : after (locals_caught (handlers_of (drop l.h-index l.hs))) l.scope ≡ after (locals_caught (handlers_of l.hs)) l.initial.scope;
}
