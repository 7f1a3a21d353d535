-- Measures of a function's variables and expressions, in which nothing is counted beyond the first number of bytes that is too great.
use Rattle.std.specs.Prelude.{ℕ, ◌+◌, min, max, List, [], ◌∷◌}
use Rattle.cxx_ast.specs.Environment.{Environment}
use Rattle.cxx_ast.specs.Plain.{Expressions, no_expressions, expression_then, Statements, no_statements, statement_then, Handlers, no_handlers, handler_then, Initialiser}
use Rattle.cxx_ast.specs.Sizes.{Most, most_in, most_of, caught_bytes, statement_bytes, statements_bytes, statement_most, statements_most}
use Rattle.cxx_check.specs.declared.measure.Measure.{Measure}

-- so many bytes of variables, and expressions of a measure
unfoldable pub capped : ℕ → Most → Measure
capped bytes m = record { bytes = min bytes 1537; levels = min m.levels 1537; arguments = min m.arguments 1537 }

-- two parts that stand side by side
unfoldable pub both_of : Measure → Measure → Measure
both_of a b = record { bytes = min (a.bytes + b.bytes) 1537; levels = max a.levels b.levels; arguments = max a.arguments b.arguments }

-- an expression round another
unfoldable pub round_of : Measure → Measure
round_of a = record { bytes = 0; levels = min (a.levels + 1) 1537; arguments = a.arguments }

-- an operator between two operands
unfoldable pub operator_of : Measure → Measure → Measure
operator_of a b = record { bytes = 0; levels = min (max a.levels b.levels + 1) 1537; arguments = min (a.arguments + b.arguments) 1537 }

-- arguments with one more, which stands behind them
unfoldable pub with_argument : Measure → Measure → Measure
with_argument a b = record { bytes = 0; levels = max a.levels b.levels; arguments = min (a.arguments + 1 + b.arguments) 1537 }

-- arguments, and others behind them
abbrev pub arguments_behind : Measure → Expressions → Measure
arguments_behind a no_expressions = a
arguments_behind a (expression_then e es) = arguments_behind (with_argument a (capped 0 (most_in e))) es

-- what was measured, and parts behind it: statements, handlers and initialisers
abbrev pub statements_behind : Environment → Measure → Statements → Measure
statements_behind env a no_statements = a
statements_behind env a (statement_then s ss) = statements_behind env (both_of a (capped (statement_bytes env s) (statement_most s))) ss

abbrev pub handlers_behind : Environment → Measure → Handlers → Measure
handlers_behind env a no_handlers = a
handlers_behind env a (handler_then ty n ss place hs) =
    handlers_behind env (both_of a (capped (caught_bytes env ty + statements_bytes env ss) (statements_most ss))) hs

abbrev pub initialisers_behind : Measure → List Initialiser → Measure
initialisers_behind a [] = a
initialisers_behind a (i ∷ is) = initialisers_behind (both_of a (capped 0 (most_of i.arguments))) is
