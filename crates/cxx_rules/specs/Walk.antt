-- A walk over statements, with what was found so far.
use Rattle.std.specs.Prelude.{ℕ, Bool, ◌+◌, ◌||◌, List, [], ◌∷◌, ◌++◌, Option, take, length}
use Rattle.cxx_ast.specs.declared.name.Name.{Name}
use Rattle.cxx_ast.specs.declared.types.Ty.{Ty}
use Rattle.cxx_ast.specs.Plain.{Statements, no_statements, statement_then, Handlers, no_handlers, handler_then}
use Rattle.cxx_ast.specs.Environment.{Environment, Variable, Scope}
use Rattle.cxx_ast.specs.Finding.{Finding, breaks_if}
use Rattle.cxx_ast.specs.Locals.{after, handler_scope, caught_count, locals_of, scope_behind}
use Rattle.cxx_ast.specs.Rule.{handler_order}
use Rattle.cxx_ast.specs.StatementRules.{caught_found, catches_all, statement_found, statements_found}
use Rattle.cxx_rules.specs.declared.found.Found.{Found}
use Rattle.cxx_rules.specs.Summary.{both, seen}

-- the scope behind the statements of a block
abbrev pub scope_after : Environment → Scope → Statements → Scope
scope_after env sc no_statements = sc
scope_after env sc (statement_then s ss) = scope_after env (scope_behind env sc s) ss

-- what was found, and the statements of a block behind it
abbrev pub statements_behind : Environment → Found → Scope → Statements → Found
statements_behind env found sc no_statements = found
statements_behind env found sc (statement_then s ss) = statements_behind env (both found (seen env (statement_found env sc s))) (scope_behind env sc s) ss

-- a handler, where one before catches all or none does
abbrev pub handler_found : Environment → Scope → Bool → Option Ty → Option Name → Statements → ℕ → List Finding
handler_found env sc behind_all ty n ss place =
    breaks_if behind_all handler_order place ++ caught_found env sc ty ++ statements_found env (handler_scope env ty n sc) ss

-- what was found, and handlers behind it
abbrev pub handlers_behind : Environment → Found → Scope → Bool → Handlers → Found
handlers_behind env found sc behind_all no_handlers = found
handlers_behind env found sc behind_all (handler_then ty n ss place hs) =
    handlers_behind env (both found (seen env (handler_found env sc behind_all ty n ss place)))
    (after (caught_count ty + locals_of ss) sc) (behind_all || catches_all ty) hs

-- how many variables the innermost scope has
abbrev pub first_length : List (List Variable) → ℕ
first_length [] = 0
first_length (row ∷ rows) = length row

-- the first variables of the innermost scope
abbrev pub first_taken : ℕ → List (List Variable) → List (List Variable)
first_taken count [] = []
first_taken count (row ∷ rows) = take count row ∷ rows

-- a scope that has forgotten all but so many variables of its innermost
abbrev pub rewound : ℕ → Scope → Scope
rewound count sc = record sc { locals = first_taken count sc.locals }
