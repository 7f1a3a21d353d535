-- What is said of expressions, statements and functions: each call of a built-in function is given what it takes, and its value is wanted only where
-- it gives one.
use Rattle.std.proofs.Common.{ℕ, zero, suc, List, [], ◌∷◌, Option, Some, None}
use Rattle.cxx_ast.specs.declared.name.Bound.{Bound}
use Rattle.cxx_ast.specs.declared.name.Bound.TheVariants.{Builtin as BuiltinBound}
use Rattle.cxx_ast.specs.declared.name.Builtin.{Builtin}
use Rattle.cxx_ast.specs.declared.name.Builtin.TheVariants.{WriteInt, ReadByte, Exit, Module, Cancel, Terminate, SetTerminate, SetUnexpected, Uncaught, BadException}
use Rattle.cxx_ast.specs.Plain.{Expression, number, path, paren, unary, binary, call, std_call, Expressions, no_expressions, expression_then, Statement, block, empty, if_else, while, return, break, continue, throw, try, assign, evaluate, local_int, local_ref, local_object, Else, no_else, else_do, Statements, no_statements, statement_then, Handlers, no_handlers, handler_then, Initialiser, Function}
use Rattle.meaning_forms.specs.Expression.{callee_bound, function_named}

-- so many arguments
abbrev pub HasCount : ℕ → Expressions → Type 0
HasCount zero no_expressions = Unit {0}
HasCount zero (expression_then e es) = ⊥
HasCount (suc n) no_expressions = ⊥
HasCount (suc n) (expression_then e es) = HasCount n es

-- a function is named
abbrev pub IsNamed : Option ℕ → Type 0
IsNamed None = ⊥
IsNamed (Some n) = Unit {0}

-- a built-in function takes what is given
abbrev pub Takes : Builtin → Expressions → Type 0
Takes WriteInt es = HasCount 1 es
Takes ReadByte es = HasCount 0 es
Takes Exit es = HasCount 1 es
Takes Module es = HasCount 2 es
Takes Cancel es = HasCount 1 es
Takes Terminate es = HasCount 0 es
Takes Uncaught es = HasCount 0 es
Takes SetTerminate es = IsNamed (function_named es)
Takes SetUnexpected es = IsNamed (function_named es)
Takes BadException es = ⊥

abbrev pub BoundTakes : Bound → Expressions → Type 0
BoundTakes (BuiltinBound b) es = Takes b es
BoundTakes _ es = Unit {0}

-- it gives a value
abbrev pub GivesValue : Builtin → Type 0
GivesValue ReadByte = Unit {0}
GivesValue Module = Unit {0}
GivesValue Uncaught = Unit {0}
GivesValue _ = ⊥

abbrev pub BoundGives : Bound → Type 0
BoundGives (BuiltinBound b) = GivesValue b
BoundGives _ = Unit {0}

-- no built-in function is called last that gives no value
abbrev pub Gives : Expression → Type 0
Gives (number v place) = Unit {0}
Gives (path names) = Unit {0}
Gives (paren e place) = Gives e
Gives (unary o e place) = Unit {0}
Gives (binary o a b) = Unit {0}
Gives (call names es) = BoundGives (callee_bound names)
Gives (std_call n es place) = BoundGives n.bound

-- so are the calls of an expression, whose own value may be dropped
abbrev mutual
  pub Fits : Expression → Type 0
  Fits (number v place) = Unit {0}
  Fits (path names) = Unit {0}
  Fits (paren e place) = Fits e
  Fits (unary o e place) = Fits e × Gives e
  Fits (binary o a b) = (Fits a × Gives a) × (Fits b × Gives b)
  Fits (call names es) = BoundTakes (callee_bound names) es × AllFit es
  Fits (std_call n es place) = BoundTakes n.bound es × AllFit es

  pub AllFit : Expressions → Type 0
  AllFit no_expressions = Unit {0}
  AllFit (expression_then e es) = (Fits e × Gives e) × AllFit es

-- an expression whose value is wanted
abbrev pub IsValued : Expression → Type 0
IsValued e = Fits e × Gives e

abbrev pub WhereValued : Option Expression → Type 0
WhereValued None = Unit {0}
WhereValued (Some e) = IsValued e

abbrev mutual
  pub StatementFits : Statement → Type 0
  StatementFits (block ss) = StatementsFit ss
  StatementFits empty = Unit {0}
  StatementFits (if_else e s t) = IsValued e × StatementFits s × ElseFits t
  StatementFits (while e s) = IsValued e × StatementFits s
  StatementFits (return place e) = WhereValued e
  StatementFits (break place) = Unit {0}
  StatementFits (continue place) = Unit {0}
  StatementFits (throw place e) = WhereValued e
  StatementFits (try ss hs) = StatementsFit ss × HandlersFit hs
  StatementFits (assign names e) = IsValued e
  StatementFits (evaluate e) = Fits e
  StatementFits (local_int x e) = WhereValued e
  StatementFits (local_ref p names) = Unit {0}
  StatementFits (local_object c x es) = AllFit es

  pub ElseFits : Else → Type 0
  ElseFits no_else = Unit {0}
  ElseFits (else_do s) = StatementFits s

  pub StatementsFit : Statements → Type 0
  StatementsFit no_statements = Unit {0}
  StatementsFit (statement_then s ss) = StatementFits s × StatementsFit ss

  pub HandlersFit : Handlers → Type 0
  HandlersFit no_handlers = Unit {0}
  HandlersFit (handler_then t x ss place hs) = StatementsFit ss × HandlersFit hs

abbrev pub BodyFits : Option Statements → Type 0
BodyFits None = Unit {0}
BodyFits (Some ss) = StatementsFit ss

abbrev pub InitialisersFit : List Initialiser → Type 0
InitialisersFit [] = Unit {0}
InitialisersFit (i ∷ is) = AllFit i.arguments × InitialisersFit is

-- a function, with its initialisers
pub record FunctionFits (f : Function) : Type 0 where
  pub initialisers : InitialisersFit f.initialisers
  pub body : BodyFits f.body
