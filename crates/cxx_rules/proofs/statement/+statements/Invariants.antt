use Rattle.std.proofs.Common.{◌≡◌, drop}
use Rattle.cxx_ast.specs.Locals.{after, locals_caught}
use Rattle.cxx_ast.specs.View.{statements_of, handlers_of}
use Rattle.cxx_rules.specs.Walk.{scope_after, statements_behind, handlers_behind}
use Rattle.cxx_rules.proofs.statement.+statements.Given as goal

abbrev pub invariant-statements-loop-s : goal.invariant-statements-loop-s
invariant-statements-loop-s l = record {
  found : statements_behind l.env l.found l.scope (statements_of (drop l.s-index l.ss)) ≡ statements_behind l.env l.initial.found l.initial.scope (statements_of l.ss);
  scope : scope_after l.env l.scope (statements_of (drop l.s-index l.ss)) ≡ scope_after l.env l.initial.scope (statements_of l.ss);
}

abbrev pub invariant-handlers-loop-h : goal.invariant-handlers-loop-h
invariant-handlers-loop-h l = record {
  found : handlers_behind l.env l.found l.scope l.behind_all (handlers_of (drop l.h-index l.hs)) ≡ handlers_behind l.env l.initial.found l.initial.scope l.initial.behind_all (handlers_of l.hs);
  scope : after (locals_caught (handlers_of (drop l.h-index l.hs))) l.scope ≡ after (locals_caught (handlers_of l.hs)) l.initial.scope;
}
