-- Calls of built-in functions have at most two arguments, as the rules on their arities want.
use Rattle.std.specs.Prelude.{◌≤◌, List, [], ◌∷◌, Option, Some, None}
use Rattle.std.specs.List.{AllByRecursion}
use Rattle.cxx_ast.specs.declared.name.Bound.{Bound}
use Rattle.cxx_ast.specs.declared.name.Bound.TheVariants.{Builtin}
use Rattle.cxx_ast.specs.Plain.{Expression, paren, unary, binary, call, std_call, Expressions, no_expressions, expression_then, Statement, block, if_else, while, return, throw, try, assign, evaluate, local_int, local_object, Else, no_else, else_do, Statements, no_statements, statement_then, Handlers, no_handlers, handler_then, Initialiser, Function, Checked}
use Rattle.meaning_forms.specs.Expression.{callee_bound, count_of}

-- the arguments of a call, by what is called
abbrev pub GivenFits : Bound → Expressions → Type 0
GivenFits (Builtin b) es = count_of es ≤ 2
GivenFits b es = Unit {0}

abbrev mutual
  pub CallsFit : Expression → Type 0
  CallsFit (paren e place) = CallsFit e
  CallsFit (unary o e place) = CallsFit e
  CallsFit (binary o a b) = CallsFit a × CallsFit b
  CallsFit (call names es) = GivenFits (callee_bound names) es × AllCallsFit es
  CallsFit (std_call n es place) = GivenFits n.bound es × AllCallsFit es
  CallsFit e = Unit {0}

  pub AllCallsFit : Expressions → Type 0
  AllCallsFit no_expressions = Unit {0}
  AllCallsFit (expression_then e es) = CallsFit e × AllCallsFit es

abbrev pub ValueCallsFit : Option Expression → Type 0
ValueCallsFit None = Unit {0}
ValueCallsFit (Some e) = CallsFit e

abbrev mutual
  pub StatementCallsFit : Statement → Type 0
  StatementCallsFit (block ss) = StatementsCallsFit ss
  StatementCallsFit (if_else e s t) = CallsFit e × StatementCallsFit s × ElseCallsFit t
  StatementCallsFit (while e s) = CallsFit e × StatementCallsFit s
  StatementCallsFit (return place e) = ValueCallsFit e
  StatementCallsFit (throw place e) = ValueCallsFit e
  StatementCallsFit (try ss hs) = StatementsCallsFit ss × HandlersCallsFit hs
  StatementCallsFit (assign names e) = CallsFit e
  StatementCallsFit (evaluate e) = CallsFit e
  StatementCallsFit (local_int x e) = ValueCallsFit e
  StatementCallsFit (local_object c x es) = AllCallsFit es
  StatementCallsFit s = Unit {0}

  pub ElseCallsFit : Else → Type 0
  ElseCallsFit no_else = Unit {0}
  ElseCallsFit (else_do s) = StatementCallsFit s

  pub StatementsCallsFit : Statements → Type 0
  StatementsCallsFit no_statements = Unit {0}
  StatementsCallsFit (statement_then s ss) = StatementCallsFit s × StatementsCallsFit ss

  pub HandlersCallsFit : Handlers → Type 0
  HandlersCallsFit no_handlers = Unit {0}
  HandlersCallsFit (handler_then t x ss place hs) = StatementsCallsFit ss × HandlersCallsFit hs

abbrev pub BodyCallsFit : Option Statements → Type 0
BodyCallsFit None = Unit {0}
BodyCallsFit (Some ss) = StatementsCallsFit ss

abbrev pub InitialisersCallsFit : List Initialiser → Type 0
InitialisersCallsFit [] = Unit {0}
InitialisersCallsFit (i ∷ is) = AllCallsFit i.arguments × InitialisersCallsFit is

-- a function
pub record FunctionCallsFit (f : Function) : Type 0 where
  pub initialisers : InitialisersCallsFit f.initialisers
  pub body : BodyCallsFit f.body

-- all functions of a program
pub record BuiltinsTakeFew (p : Checked) : Type 0 where
  pub functions : AllByRecursion FunctionCallsFit p.functions
  pub methods : AllByRecursion (λ c. AllByRecursion FunctionCallsFit c.functions) p.classes
