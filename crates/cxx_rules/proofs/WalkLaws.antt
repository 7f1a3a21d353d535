-- A walk over statements finds what the definition finds.
use Rattle.std.proofs.Common.{◌≡◌, ◌+◌, ◌||◌, Bool, false, refl, ◌∙◌}
use Rattle.cxx_ast.specs.Plain.{Statements, no_statements, statement_then, Handlers, no_handlers, handler_then}
use Rattle.cxx_ast.specs.Environment.{Environment, Scope}
use Rattle.cxx_ast.specs.Locals.{after, caught_count, locals_of, scope_behind}
use Rattle.cxx_ast.specs.StatementRules.{catches_all, statement_found, statements_found, handlers_found}
use Rattle.cxx_rules.specs.declared.found.Found.{Found}
use Rattle.cxx_rules.specs.Summary.{nothing_found, both, seen}
use Rattle.cxx_rules.specs.Walk.{statements_behind, handler_found, handlers_behind}
use Rattle.cxx_rules.proofs.FoundLaws.{nothing_both}
use Rattle.cxx_rules.proofs.GivenLaws.{end_of, next_of}

statements_so_far : (env : Environment) (f : Found) (sc : Scope) (ss : Statements) → statements_behind env f sc ss ≡ both f (seen env (statements_found env sc ss))
statements_so_far env f sc no_statements = end_of env f
statements_so_far env f sc (statement_then s ss) =
    statements_so_far env (both f (seen env (statement_found env sc s))) (scope_behind env sc s) ss
    ∙ next_of env f (seen env (statement_found env sc s)) (statement_found env sc s) (statements_found env (scope_behind env sc s) ss) refl

pub statements_behind_is : (env : Environment) (sc : Scope) (ss : Statements) → statements_behind env nothing_found sc ss ≡ seen env (statements_found env sc ss)
statements_behind_is env sc ss = statements_so_far env nothing_found sc ss ∙ nothing_both (seen env (statements_found env sc ss))

handlers_so_far : (env : Environment) (f : Found) (sc : Scope) (all : Bool) (hs : Handlers) →
    handlers_behind env f sc all hs ≡ both f (seen env (handlers_found env sc all hs))
handlers_so_far env f sc all no_handlers = end_of env f
handlers_so_far env f sc all (handler_then ty n ss place hs) =
    handlers_so_far env (both f (seen env (handler_found env sc all ty n ss place))) (after (caught_count ty + locals_of ss) sc) (all || catches_all ty) hs
    ∙ next_of env f (seen env (handler_found env sc all ty n ss place)) (handler_found env sc all ty n ss place)
    (handlers_found env (after (caught_count ty + locals_of ss) sc) (all || catches_all ty) hs) refl

pub handlers_behind_is : (env : Environment) (sc : Scope) (hs : Handlers) → handlers_behind env nothing_found sc false hs ≡ seen env (handlers_found env sc false hs)
handlers_behind_is env sc hs = handlers_so_far env nothing_found sc false hs ∙ nothing_both (seen env (handlers_found env sc false hs))
