-- How many tokens an expression, a statement and what holds them have at least. Each name of a path but the first, each comma and some
-- other tokens are not counted.
use Rattle.std.specs.Prelude.{ℕ, zero, suc, ◌+◌, ◌*◌, List, [], ◌∷◌, length, Option, Some, None}
use Rattle.cxx_ast.specs.declared.name.Name.{Name}
use Rattle.cxx_ast.specs.Plain.{Expression, number, path, paren, unary, binary, call, std_call, Expressions, no_expressions, expression_then, Statement, block, empty, if_else, while, return, break, continue, throw, try, assign, evaluate, local_int, local_ref, local_object, Else, no_else, else_do, Statements, no_statements, statement_then, Handlers, no_handlers, handler_then, Initialiser, Function, Class, Declaration, class_declaration, global_declaration, function_declaration, Specification, listed, noexcept}
use Rattle.cxx_ast.specs.declared.declaration.FuncKind.{FuncKind}
use Rattle.cxx_ast.specs.declared.declaration.FuncKind.TheVariants.{Destructor}
use Rattle.cxx_ast.specs.Settled.{excess}

abbrev mutual
  pub tokens_in : Expression → ℕ
  tokens_in (number v place) = 1
  tokens_in (path names) = 1
  tokens_in (paren e place) = tokens_in e + 2
  tokens_in (unary o e place) = tokens_in e + 1
  tokens_in (binary o a b) = tokens_in a + tokens_in b + 1
  tokens_in (call names es) = tokens_in_all es + 3
  tokens_in (std_call n es place) = tokens_in_all es + 5

  pub tokens_in_all : Expressions → ℕ
  tokens_in_all no_expressions = 0
  tokens_in_all (expression_then e es) = tokens_in e + tokens_in_all es

-- an expression, where there is one
abbrev pub tokens_in_value : Option Expression → ℕ
tokens_in_value None = 0
tokens_in_value (Some e) = tokens_in e

abbrev mutual
  pub statement_tokens : Statement → ℕ
  statement_tokens (block ss) = statements_tokens ss + 2
  statement_tokens empty = 1
  statement_tokens (if_else e s t) = tokens_in e + statement_tokens s + else_tokens t + 3
  statement_tokens (while e s) = tokens_in e + statement_tokens s + 3
  statement_tokens (return place e) = tokens_in_value e + 2
  statement_tokens (break place) = 2
  statement_tokens (continue place) = 2
  statement_tokens (throw place e) = tokens_in_value e + 2
  statement_tokens (try ss hs) = statements_tokens ss + handlers_tokens hs + 3
  statement_tokens (assign names e) = tokens_in e + 3
  statement_tokens (evaluate e) = tokens_in e + 1
  statement_tokens (local_int x e) = tokens_in_value e + 3
  statement_tokens (local_ref x names) = 3
  statement_tokens (local_object c x es) = tokens_in_all es + 3

  pub else_tokens : Else → ℕ
  else_tokens no_else = 0
  else_tokens (else_do s) = statement_tokens s + 1

  pub statements_tokens : Statements → ℕ
  statements_tokens no_statements = 0
  statements_tokens (statement_then s ss) = statement_tokens s + statements_tokens ss

  -- a handler with nothing in it has six tokens
  pub handlers_tokens : Handlers → ℕ
  handlers_tokens no_handlers = 0
  handlers_tokens (handler_then t x ss place hs) = statements_tokens ss + handlers_tokens hs + 6

-- arguments, where there are some
abbrev pub tokens_given : Option Expressions → ℕ
tokens_given None = 0
tokens_given (Some es) = tokens_in_all es

-- each initialiser has a name and two parentheses
abbrev pub initialisers_tokens : List Initialiser → ℕ
initialisers_tokens [] = 0
initialisers_tokens (i ∷ is) = tokens_in_all i.arguments + 3 + initialisers_tokens is

-- a comma stands before each parameter but the first
abbrev pub parameters_tokens : ℕ → ℕ
parameters_tokens zero = 0
parameters_tokens (suc n) = 2 * n + 1

-- A specification that lists types has a word and two parentheses beside them. A destructor may have taken over as many types as may be, and
-- `noexcept`, without a token of its own.
abbrev pub specification_tokens : FuncKind → Option Specification → ℕ
specification_tokens Destructor s = excess s
specification_tokens kind None = 0
specification_tokens kind (Some (listed types)) = length types + 3
specification_tokens kind (Some (noexcept place b)) = 1

-- a body stands in braces; where there is none, there is a semicolon, and a type before the function's name
abbrev pub body_tokens : Option Statements → ℕ
body_tokens None = 2
body_tokens (Some ss) = statements_tokens ss + 2

-- a function has a name and two parentheses
abbrev pub function_tokens : Function → ℕ
function_tokens f =
    parameters_tokens (length f.parameters) + specification_tokens f.kind f.specification + initialisers_tokens f.initialisers + body_tokens f.body + 3

abbrev pub functions_tokens : List Function → ℕ
functions_tokens [] = 0
functions_tokens (f ∷ fs) = function_tokens f + functions_tokens fs

-- a base stands behind a colon
abbrev pub base_tokens : Option Name → ℕ
base_tokens None = 0
base_tokens (Some b) = 2

-- each data member has a type, a name and a semicolon; a class with nothing in it has five tokens
abbrev pub class_tokens : Class → ℕ
class_tokens c = functions_tokens c.functions + 3 * length c.members + base_tokens c.base + 5

abbrev pub classes_tokens : List Class → ℕ
classes_tokens [] = 0
classes_tokens (c ∷ cs) = class_tokens c + classes_tokens cs

-- a global has a type, a name and a semicolon
abbrev pub declaration_tokens : Declaration → ℕ
declaration_tokens (class_declaration c) = class_tokens c
declaration_tokens (global_declaration n value) = 3
declaration_tokens (function_declaration f) = function_tokens f

abbrev pub declarations_tokens : List Declaration → ℕ
declarations_tokens [] = 0
declarations_tokens (d ∷ ds) = declaration_tokens d + declarations_tokens ds
