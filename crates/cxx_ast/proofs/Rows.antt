-- The rows of expressions, statements and handlers in a tree, as the lists that they stand for.
use Rattle.std.proofs.Common.{◌≡◌, refl, ap}
use Rattle.cxx_ast.specs.declared.expression.Expr.{Expr, Row_of-Expr, end_of-Expr, more_of-Expr, items-the_row-Expr, the_lemmas}
use Rattle.cxx_ast.specs.declared.statement.Stmt.{Stmt, Row_of-Stmt, end_of-Stmt, more_of-Stmt, items-the_row-Stmt, the_lemmas as stmt_lemmas, Row_of-Handler, end_of-Handler, more_of-Handler, items-the_row-Handler}
use Rattle.cxx_ast.specs.Plain.{expression_then, statement_then}
use Rattle.cxx_ast.specs.View.{expression_of, row_of_expressions, expressions_of, statement_of, row_of_statements, statements_of, row_of_handlers, handlers_of}

pub row_of_expressions-items : (n : _) (row : Row_of-Expr n) → row_of_expressions row ≡ expressions_of (items-the_row-Expr n row)
row_of_expressions-items _ end_of-Expr = refl
row_of_expressions-items _ (more_of-Expr e rest) = ap (expression_then (expression_of e)) (row_of_expressions-items _ rest)

-- a row of expressions read as a list
pub ruleset rows = (the_lemmas, row_of_expressions-items)

pub row_of_statements-items : (n : _) (row : Row_of-Stmt n) → row_of_statements row ≡ statements_of (items-the_row-Stmt n row)
row_of_statements-items _ end_of-Stmt = refl
row_of_statements-items _ (more_of-Stmt s rest) = ap (statement_then (statement_of s)) (row_of_statements-items _ rest)

pub row_of_handlers-items : (n : _) (row : Row_of-Handler n) → row_of_handlers row ≡ handlers_of (items-the_row-Handler n row)
row_of_handlers-items _ end_of-Handler = refl
row_of_handlers-items _ (more_of-Handler ty n shape row place rest) = search (stmt_lemmas, row_of_statements-items _ row, row_of_handlers-items _ rest)

-- rows of statements and handlers read as lists
pub ruleset statement_rows = (stmt_lemmas, row_of_statements-items, row_of_handlers-items)
