-- An evaluation goes no deeper than a tree and the variables that it declares.
use Rattle.std.proofs.Common.{◌≡◌, ◌+◌, ◌≤◌, ◌++◌, length, length-append, Option, Some, None, arith}
use Rattle.cxx_ast.specs.Plain.{Expression, number, path, paren, unary, binary, call, std_call, Expressions, no_expressions, expression_then, Statement, block, empty, if_else, while, return, break, continue, throw, try, assign, evaluate, local_int, local_ref, local_object, Else, no_else, else_do, Statements, no_statements, statement_then, Handlers, no_handlers, handler_then}
use Rattle.cxx_ast.specs.Depth.{below_expression, below_expressions, below_value, below_statement, below_else, below_statements, below_handlers}
use Rattle.cxx_ast.specs.Sizes.{levels, most_levels}
use Rattle.region_forms.specs.Numbering.{declared_in, declared_in_else, all_declared_in, declared_in_handlers}
use Rattle.scope_meaning.specs.Levels.{value_levels, statement_levels, else_levels, statements_levels, handlers_levels}

mutual
  pub expression_deep : (e : Expression) → levels e ≤ below_expression e + 1
  expression_deep (number n place) = omega arith
  expression_deep (path names) = omega arith
  expression_deep (paren e place) = omega (arith, expression_deep e)
  expression_deep (unary op e place) = omega (arith, expression_deep e)
  expression_deep (binary op a b) = omega (arith, expression_deep a, expression_deep b)
  expression_deep (call names es) = omega (arith, expressions_deep es)
  expression_deep (std_call n es place) = omega (arith, expressions_deep es)

  pub expressions_deep : (es : Expressions) → most_levels es ≤ below_expressions es
  expressions_deep no_expressions = omega arith
  expressions_deep (expression_then e es) = omega (arith, expression_deep e, expressions_deep es)

value_deep : (e : Option Expression) → value_levels e ≤ below_value e
value_deep None = omega arith
value_deep (Some e) = expression_deep e

mutual
  statement_deep : (s : Statement) → statement_levels s ≤ below_statement s + 1 + length (declared_in s)
  statement_deep (block ss) = omega (arith, statements_deep ss)
  statement_deep empty = omega arith
  statement_deep (if_else e s other) = omega (arith, expression_deep e, statement_deep s, else_deep other, length-append (declared_in s) (declared_in_else other))
  statement_deep (while e s) = omega (arith, expression_deep e, statement_deep s)
  statement_deep (return place e) = omega (arith, value_deep e)
  statement_deep (break place) = omega arith
  statement_deep (continue place) = omega arith
  statement_deep (throw place e) = omega (arith, value_deep e)
  statement_deep (try ss hs) = omega (arith, statements_deep ss, handlers_deep hs, length-append (all_declared_in ss) (declared_in_handlers hs))
  statement_deep (assign names e) = omega (arith, expression_deep e)
  statement_deep (evaluate e) = omega (arith, expression_deep e)
  statement_deep (local_int n e) = omega (arith, value_deep e)
  statement_deep (local_ref p names) = omega arith
  statement_deep (local_object c n es) = omega (arith, expressions_deep es)

  else_deep : (other : Else) → else_levels other ≤ below_else other + length (declared_in_else other)
  else_deep no_else = omega arith
  else_deep (else_do s) = statement_deep s

  pub statements_deep : (ss : Statements) → statements_levels ss ≤ below_statements ss + length (all_declared_in ss)
  statements_deep no_statements = omega arith
  statements_deep (statement_then s ss) =
      behind s ss (statement_deep s) (statements_deep ss) (length-append (declared_in s) (all_declared_in ss))

  handlers_deep : (hs : Handlers) → handlers_levels hs ≤ below_handlers hs + length (declared_in_handlers hs)
  handlers_deep no_handlers = omega arith
  handlers_deep (handler_then None n ss place hs) = omega (arith, statements_deep ss, handlers_deep hs, length-append (all_declared_in ss) (declared_in_handlers hs))
  handlers_deep (handler_then (Some t) n ss place hs) = omega (arith, statements_deep ss, handlers_deep hs, length-append (all_declared_in ss) (declared_in_handlers hs))

  -- a statement and the rest of its block
  behind : (s : Statement) (ss : Statements) → statement_levels s ≤ below_statement s + 1 + length (declared_in s) → statements_levels ss ≤ below_statements ss + length (all_declared_in ss) →
      length (declared_in s ++ all_declared_in ss) ≡ length (declared_in s) + length (all_declared_in ss) → statements_levels (statement_then s ss) ≤ below_statements (statement_then s ss) + length (all_declared_in (statement_then s ss))
  behind (local_int n e) ss here rest both = omega (arith, value_deep e, rest, both)
  behind (local_ref p names) ss here rest both = omega (arith, rest, both)
  behind (local_object c n es) ss here rest both = omega (arith, expressions_deep es, rest, both)
  behind (block body) ss here rest both = omega (arith, here, rest, both)
  behind empty ss here rest both = omega (arith, here, rest, both)
  behind (if_else e s other) ss here rest both = omega (arith, here, rest, both)
  behind (while e s) ss here rest both = omega (arith, here, rest, both)
  behind (return place e) ss here rest both = omega (arith, here, rest, both)
  behind (break place) ss here rest both = omega (arith, here, rest, both)
  behind (continue place) ss here rest both = omega (arith, here, rest, both)
  behind (throw place e) ss here rest both = omega (arith, here, rest, both)
  behind (try body hs) ss here rest both = omega (arith, here, rest, both)
  behind (assign names e) ss here rest both = omega (arith, here, rest, both)
  behind (evaluate e) ss here rest both = omega (arith, here, rest, both)
