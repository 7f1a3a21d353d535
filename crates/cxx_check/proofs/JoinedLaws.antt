-- Expressions in memory, one by one.
use Rattle.std.proofs.Common.{◌≡◌, ℕ, Option, List, [], ◌∷◌, ◌++◌, refl, ap}
use Rattle.cxx_ast.specs.declared.name.Name.{Name}
use Rattle.cxx_ast.specs.declared.types.Ty.{Ty}
use Rattle.cxx_ast.specs.declared.expression.Expr.{Expr}
use Rattle.cxx_ast.specs.declared.statement.Stmt.{Stmt}
use Rattle.cxx_ast.specs.declared.statement.Handler.{Handler}
use Rattle.cxx_ast.specs.Plain.{Expressions, no_expressions, expression_then, Statements, no_statements, statement_then, Handlers, no_handlers, handler_then}
use Rattle.cxx_ast.specs.View.{expression_of, expressions_of, statement_of, statements_of, handlers_of}
use Rattle.cxx_check.specs.Joined.{expressions_joined, statements_joined, handlers_joined}

pub joined_push : (es : List Expr) (e : Expr) (others : Expressions) →
    expressions_joined (es ++ e ∷ []) others ≡ expressions_joined es (expression_then (expression_of e) others)
joined_push [] e others = refl
joined_push (d ∷ es) e others = ap (expression_then (expression_of d)) (joined_push es e others)

pub joined_all : (es : List Expr) → expressions_joined es no_expressions ≡ expressions_of es
joined_all [] = refl
joined_all (e ∷ es) = ap (expression_then (expression_of e)) (joined_all es)

pub statements_push : (ss : List Stmt) (s : Stmt) (others : Statements) →
    statements_joined (ss ++ s ∷ []) others ≡ statements_joined ss (statement_then (statement_of s) others)
statements_push [] s others = refl
statements_push (r ∷ ss) s others = ap (statement_then (statement_of r)) (statements_push ss s others)

pub statements_all : (ss : List Stmt) → statements_joined ss no_statements ≡ statements_of ss
statements_all [] = refl
statements_all (s ∷ ss) = ap (statement_then (statement_of s)) (statements_all ss)

pub handlers_push : (hs : List Handler) (h : Handler) (others : Handlers) →
    handlers_joined (hs ++ h ∷ []) others ≡ handlers_joined hs (handler_then h.ty h.name (statements_of h.body.items) h.place others)
handlers_push [] h others = refl
handlers_push (g ∷ hs) h others = ap (handler_then g.ty g.name (statements_of g.body.items) g.place) (handlers_push hs h others)

pub handlers_all : (hs : List Handler) → handlers_joined hs no_handlers ≡ handlers_of hs
handlers_all [] = refl
handlers_all (h ∷ hs) = ap (handler_then h.ty h.name (statements_of h.body.items) h.place) (handlers_all hs)

-- the first of some handlers before others
abbrev pub with_others : Handlers → Handlers → Handlers
with_others no_handlers others = others
with_others (handler_then ty n ss place hs) others = handler_then ty n ss place others

-- a handler before others, by what it is alone
pub handler_joined : (h : Handler) (ty : Option Ty) (n : Option Name) (ss : Statements) (place : ℕ) (others : Handlers) →
    handlers_of (h ∷ []) ≡ handler_then ty n ss place no_handlers →
    handler_then h.ty h.name (statements_of h.body.items) h.place others ≡ handler_then ty n ss place others
handler_joined h ty n ss place others e = ap (λ hs. with_others hs others) e
