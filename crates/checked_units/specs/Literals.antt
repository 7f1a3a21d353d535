-- The literals of a program are ints.
use Rattle.std.specs.Prelude.{⊤, List, [], ◌∷◌, Option, Some, None}
use Rattle.std.specs.List.{AllByRecursion}
use Rattle.cxx_ast.specs.Plain.{Expression, number, path, paren, unary, binary, call, std_call, Expressions, no_expressions, expression_then, Statement, block, empty, if_else, while, return, break, continue, throw, try, assign, evaluate, local_int, local_ref, local_object, Else, no_else, else_do, Statements, no_statements, statement_then, Handlers, no_handlers, handler_then, Initialiser, Function, Checked}
use Rattle.machine_pieces.specs.Numbers.{IsInt}

abbrev mutual
  pub LiteralsIn : Expression → Type 0
  LiteralsIn (number v place) = IsInt v
  LiteralsIn (path names) = ⊤
  LiteralsIn (paren e place) = LiteralsIn e
  LiteralsIn (unary o e place) = LiteralsIn e
  LiteralsIn (binary o a b) = LiteralsIn a × LiteralsIn b
  LiteralsIn (call names es) = AllLiterals es
  LiteralsIn (std_call n es place) = AllLiterals es

  pub AllLiterals : Expressions → Type 0
  AllLiterals no_expressions = ⊤
  AllLiterals (expression_then e es) = LiteralsIn e × AllLiterals es

abbrev pub ValueLiterals : Option Expression → Type 0
ValueLiterals None = ⊤
ValueLiterals (Some e) = LiteralsIn e

abbrev mutual
  pub StatementLiterals : Statement → Type 0
  StatementLiterals (block ss) = StatementsLiterals ss
  StatementLiterals empty = ⊤
  StatementLiterals (if_else e s t) = LiteralsIn e × StatementLiterals s × ElseLiterals t
  StatementLiterals (while e s) = LiteralsIn e × StatementLiterals s
  StatementLiterals (return place e) = ValueLiterals e
  StatementLiterals (break place) = ⊤
  StatementLiterals (continue place) = ⊤
  StatementLiterals (throw place e) = ValueLiterals e
  StatementLiterals (try ss hs) = StatementsLiterals ss × HandlersLiterals hs
  StatementLiterals (assign names e) = LiteralsIn e
  StatementLiterals (evaluate e) = LiteralsIn e
  StatementLiterals (local_int x e) = ValueLiterals e
  StatementLiterals (local_ref x names) = ⊤
  StatementLiterals (local_object c x es) = AllLiterals es

  pub ElseLiterals : Else → Type 0
  ElseLiterals no_else = ⊤
  ElseLiterals (else_do s) = StatementLiterals s

  pub StatementsLiterals : Statements → Type 0
  StatementsLiterals no_statements = ⊤
  StatementsLiterals (statement_then s ss) = StatementLiterals s × StatementsLiterals ss

  pub HandlersLiterals : Handlers → Type 0
  HandlersLiterals no_handlers = ⊤
  HandlersLiterals (handler_then t x ss place hs) = StatementsLiterals ss × HandlersLiterals hs

abbrev pub BodyLiterals : Option Statements → Type 0
BodyLiterals None = ⊤
BodyLiterals (Some ss) = StatementsLiterals ss

abbrev pub InitialisersLiterals : List Initialiser → Type 0
InitialisersLiterals [] = ⊤
InitialisersLiterals (i ∷ is) = AllLiterals i.arguments × InitialisersLiterals is

-- a function
pub record FunctionLiterals (f : Function) : Type 0 where
  pub initialisers : InitialisersLiterals f.initialisers
  pub body : BodyLiterals f.body

-- all functions of a program
pub record ProgramLiterals (p : Checked) : Type 0 where
  pub functions : AllByRecursion FunctionLiterals p.functions
  pub methods : AllByRecursion (λ c. AllByRecursion FunctionLiterals c.functions) p.classes
