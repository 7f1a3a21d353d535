-- Rows of trees as lists, and how deep lists of trees are.
use Rattle.std.proofs.Common.{◌+◌, ◌≡◌, List, [], ◌∷◌, ◌++◌, max, map, ap, refl, arith}
use Rattle.std.proofs.lemmas.List.{map-append}
use Rattle.cxx_ast.specs.declared.expression.Expr.{Expr, Row_of-Expr, end_of-Expr, more_of-Expr, items-the_row-Expr, the_lemmas}
use Rattle.cxx_ast.specs.declared.statement.Stmt.{Stmt, Row_of-Stmt, end_of-Stmt, more_of-Stmt, items-the_row-Stmt, the_lemmas as stmt_lemmas, Row_of-Handler, end_of-Handler, more_of-Handler, items-the_row-Handler}
use Rattle.cxx_ast.specs.declared.statement.Handler.{Handler}
use Rattle.cxx_ast.specs.Depth.{below_expression, below_expressions}
use Rattle.cxx_ast.specs.Plain.{expression_then, statement_then}
use Rattle.cxx_ast.specs.View.{expression_of, expressions_of, row_of_expressions, statement_of, row_of_statements, row_of_handlers, statements_of}
use Rattle.cxx_parser.specs.Stored.{expressions_from, statements_from, handlers_from, caught_of}

-- the expressions of a row are those of its items
pub row_of_expressions-items : (n : _) (row : Row_of-Expr n) → row_of_expressions row ≡ expressions_of (items-the_row-Expr n row)
row_of_expressions-items _ end_of-Expr = refl
row_of_expressions-items _ (more_of-Expr e rest) = ap (λ x. expression_then (expression_of e) x) (row_of_expressions-items _ rest)

-- a row read as a list
pub ruleset rows = (the_lemmas, row_of_expressions-items)

-- the levels of one expression more
pub levels-append : (es : List Expr) (e : Expr) → below_expressions (expressions_of (es ++ e ∷ [])) ≡ max (below_expressions (expressions_of es)) (below_expression (expression_of e) + 1)
levels-append [] e = omega arith
levels-append (d ∷ es) e = omega (arith, levels-append es e)

pub ruleset levels = (levels-append)

-- the arguments of a call in memory
pub arguments_of : (es : List Expr) → expressions_from (map expression_of es) ≡ expressions_of es
arguments_of [] = refl
arguments_of (e ∷ es) = ap (λ x. expression_then (expression_of e) x) (arguments_of es)

-- one expression more
pub mapped_last : (es : List Expr) (e : Expr) → map expression_of (es ++ e ∷ []) ≡ map expression_of es ++ expression_of e ∷ []
mapped_last es e = map-append expression_of es (e ∷ [])

-- the statements of a row are those of its items
pub row_of_statements-items : (n : _) (row : Row_of-Stmt n) → row_of_statements row ≡ statements_from (map statement_of (items-the_row-Stmt n row))
row_of_statements-items _ end_of-Stmt = refl
row_of_statements-items _ (more_of-Stmt s rest) = ap (λ x. statement_then (statement_of s) x) (row_of_statements-items _ rest)

-- one statement more
pub mapped_last_statement : (ss : List Stmt) (s : Stmt) → map statement_of (ss ++ s ∷ []) ≡ map statement_of ss ++ statement_of s ∷ []
mapped_last_statement ss s = map-append statement_of ss (s ∷ [])

-- one handler more
pub mapped_last_handler : (hs : List Handler) (h : Handler) → map caught_of (hs ++ h ∷ []) ≡ map caught_of hs ++ caught_of h ∷ []
mapped_last_handler hs h = map-append caught_of hs (h ∷ [])

-- the statements of a list
pub statements_of-map : (ss : List Stmt) → statements_of ss ≡ statements_from (map statement_of ss)
statements_of-map [] = refl
statements_of-map (s ∷ ss) = ap (λ x. statement_then (statement_of s) x) (statements_of-map ss)

-- the handlers of a row are those of its items
pub row_of_handlers-items : (n : _) (row : Row_of-Handler n) → row_of_handlers row ≡ handlers_from (map caught_of (items-the_row-Handler n row))
row_of_handlers-items _ end_of-Handler = refl
row_of_handlers-items _ (more_of-Handler ty n shape row place rest) = search (stmt_lemmas, row_of_statements-items _ row, row_of_handlers-items _ rest, statements_of-map)

pub ruleset statement_rows = (stmt_lemmas, row_of_statements-items, row_of_handlers-items, statements_of-map)

pub ruleset bodies = (statements_of-map)
