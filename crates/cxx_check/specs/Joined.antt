-- Expressions, statements and handlers in memory before others.
use Rattle.std.specs.Prelude.{List, [], ◌∷◌}
use Rattle.cxx_ast.specs.declared.expression.Expr.{Expr}
use Rattle.cxx_ast.specs.declared.statement.Stmt.{Stmt}
use Rattle.cxx_ast.specs.declared.statement.Handler.{Handler}
use Rattle.cxx_ast.specs.Plain.{Expressions, expression_then, Statements, statement_then, Handlers, handler_then}
use Rattle.cxx_ast.specs.View.{expression_of, statement_of, statements_of}

abbrev pub expressions_joined : List Expr → Expressions → Expressions
expressions_joined [] others = others
expressions_joined (e ∷ es) others = expression_then (expression_of e) (expressions_joined es others)

abbrev pub statements_joined : List Stmt → Statements → Statements
statements_joined [] others = others
statements_joined (s ∷ ss) others = statement_then (statement_of s) (statements_joined ss others)

abbrev pub handlers_joined : List Handler → Handlers → Handlers
handlers_joined [] others = others
handlers_joined (h ∷ hs) others = handler_then h.ty h.name (statements_of h.body.items) h.place (handlers_joined hs others)
