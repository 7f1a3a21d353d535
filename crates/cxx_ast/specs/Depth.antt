-- How deep a tree is (profile). A declaration stands at 0, a member or a function at 1, and a block, a statement, a handler or an expression one deeper
-- than what holds it; the block of a function, of a try or of a handler is a node of its own, and one that is a statement is that node.
use Rattle.std.specs.Prelude.{ℕ, ◌+◌, max, List, [], ◌∷◌, Option, Some, None}
use Rattle.cxx_ast.specs.declared.types.Param.{Param}
use Rattle.cxx_ast.specs.Plain.{Expression, number, path, paren, unary, binary, call, std_call, Expressions, no_expressions, expression_then, Statement, block, empty, if_else, while, return, break, continue, throw, try, assign, evaluate, local_int, local_ref, local_object, Else, no_else, else_do, Statements, no_statements, statement_then, Handlers, no_handlers, handler_then, Function, Initialiser, Declaration, class_declaration, global_declaration, function_declaration}

-- the levels below an expression, and those below what holds expressions
abbrev mutual
  pub below_expression : Expression → ℕ
  below_expression (number n place) = 0
  below_expression (path names) = 0
  below_expression (paren e place) = below_expression e + 1
  below_expression (unary op e place) = below_expression e + 1
  below_expression (binary op a b) = max (below_expression a) (below_expression b) + 1
  below_expression (call names es) = below_expressions es
  below_expression (std_call n es place) = below_expressions es

  pub below_expressions : Expressions → ℕ
  below_expressions no_expressions = 0
  below_expressions (expression_then e es) = max (below_expression e + 1) (below_expressions es)

-- the levels below what may hold an expression
abbrev pub below_value : Option Expression → ℕ
below_value None = 0
below_value (Some e) = below_expression e + 1

-- the levels below a statement, and those below what holds an `else`, statements or handlers
abbrev mutual
  pub below_statement : Statement → ℕ
  below_statement (block ss) = below_statements ss
  below_statement empty = 0
  below_statement (if_else e s other) = max (below_expression e + 1) (max (below_statement s + 1) (below_else other))
  below_statement (while e s) = max (below_expression e + 1) (below_statement s + 1)
  below_statement (return place e) = below_value e
  below_statement (break place) = 0
  below_statement (continue place) = 0
  below_statement (throw place e) = below_value e
  below_statement (try ss hs) = max (below_statements ss + 1) (below_handlers hs)
  below_statement (assign names e) = below_expression e + 1
  below_statement (evaluate e) = below_expression e + 1
  below_statement (local_int n e) = below_value e
  below_statement (local_ref p names) = 0
  below_statement (local_object c n es) = below_expressions es

  pub below_else : Else → ℕ
  below_else no_else = 0
  below_else (else_do s) = below_statement s + 1

  pub below_statements : Statements → ℕ
  below_statements no_statements = 0
  below_statements (statement_then s ss) = max (below_statement s + 1) (below_statements ss)

  pub below_handlers : Handlers → ℕ
  below_handlers no_handlers = 0
  below_handlers (handler_then ty n ss place hs) = max (below_statements ss + 2) (below_handlers hs)

-- the levels below what holds initialisers
abbrev pub below_initialisers : List Initialiser → ℕ
below_initialisers [] = 0
below_initialisers (i ∷ is) = max (below_expressions i.arguments) (below_initialisers is)

-- the levels below what may hold a body
abbrev pub below_body : Option Statements → ℕ
below_body None = 0
below_body (Some ss) = below_statements ss + 1

-- the levels below a function
abbrev pub below_function : Function → ℕ
below_function f = max (below_initialisers f.initialisers) (below_body f.body)

-- the levels below what holds functions
abbrev pub below_functions : List Function → ℕ
below_functions [] = 0
below_functions (f ∷ fs) = max (below_function f + 1) (below_functions fs)

-- the levels below what holds data members
abbrev pub below_members : List Param → ℕ
below_members [] = 0
below_members (p ∷ ps) = 1

-- the depth of a declaration
abbrev pub declaration_depth : Declaration → ℕ
declaration_depth (class_declaration c) = max (below_members c.members) (below_functions c.functions)
declaration_depth (global_declaration n value) = 0
declaration_depth (function_declaration f) = below_function f + 1

-- the depth of declarations
abbrev pub depth : List Declaration → ℕ
depth [] = 0
depth (d ∷ ds) = max (declaration_depth d) (depth ds)
