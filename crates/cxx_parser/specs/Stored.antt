-- Lists as the parts of a tree.
use Rattle.std.specs.Prelude.{List, [], ◌∷◌}
use Rattle.cxx_ast.specs.declared.statement.Handler.{Handler}
use Rattle.cxx_ast.specs.Plain.{Expression, Expressions, no_expressions, expression_then, Statement, Statements, no_statements, statement_then, Handlers, no_handlers, handler_then}
use Rattle.cxx_ast.specs.View.{statements_of}
use Rattle.cxx_parser.specs.Contexts.{Caught}

-- expressions
abbrev pub expressions_from : List Expression → Expressions
expressions_from [] = no_expressions
expressions_from (e ∷ es) = expression_then e (expressions_from es)

-- statements
abbrev pub statements_from : List Statement → Statements
statements_from [] = no_statements
statements_from (s ∷ ss) = statement_then s (statements_from ss)

-- handlers
abbrev pub handlers_from : List Caught → Handlers
handlers_from [] = no_handlers
handlers_from (c ∷ cs) = handler_then c.type c.name c.body c.place (handlers_from cs)

-- a handler in memory
abbrev pub caught_of : Handler → Caught
caught_of h = record { type = h.ty; name = h.name; body = statements_of h.body.items; place = h.place }
