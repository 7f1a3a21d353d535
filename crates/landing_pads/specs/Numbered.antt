-- Each name of a variable in a function has the number of one of the function's variables.
use Rattle.std.specs.Prelude.{ℕ, ◌<◌, List, [], ◌∷◌, length, ⊤, Option, Some, None}
use Rattle.cxx_ast.specs.declared.name.Bound.{Bound}
use Rattle.cxx_ast.specs.declared.name.Bound.TheVariants.{Local}
use Rattle.cxx_ast.specs.declared.name.Name.{Name}
use Rattle.cxx_ast.specs.Plain.{Expression, path, paren, unary, binary, call, std_call, Expressions, no_expressions, expression_then, Statement, block, if_else, while, return, throw, try, assign, evaluate, local_int, local_ref, local_object, Else, no_else, else_do, Statements, no_statements, statement_then, Handlers, no_handlers, handler_then, Initialiser, Function}
use Rattle.region_forms.specs.Numbering.{variables_of}

-- a variable's number is below n
abbrev pub BoundFits : ℕ → Bound → Type 0
BoundFits n (Local k) = k < n
BoundFits n b = ⊤

-- a path begins at its first name; the others are members
abbrev pub PathFits : ℕ → List Name → Type 0
PathFits n [] = ⊤
PathFits n (x ∷ names) = BoundFits n x.bound

abbrev mutual
  pub ExpressionFits : ℕ → Expression → Type 0
  ExpressionFits n (path names) = PathFits n names
  ExpressionFits n (paren e place) = ExpressionFits n e
  ExpressionFits n (unary o e place) = ExpressionFits n e
  ExpressionFits n (binary o a b) = ExpressionFits n a × ExpressionFits n b
  ExpressionFits n (call names es) = PathFits n names × ExpressionsFit n es
  ExpressionFits n (std_call x es place) = ExpressionsFit n es
  ExpressionFits n e = ⊤

  pub ExpressionsFit : ℕ → Expressions → Type 0
  ExpressionsFit n no_expressions = ⊤
  ExpressionsFit n (expression_then e es) = ExpressionFits n e × ExpressionsFit n es

abbrev pub ValueFits : ℕ → Option Expression → Type 0
ValueFits n None = ⊤
ValueFits n (Some e) = ExpressionFits n e

-- a name that is declared, if there is one
abbrev pub NameFits : ℕ → Option Name → Type 0
NameFits n None = ⊤
NameFits n (Some x) = BoundFits n x.bound

abbrev mutual
  pub StatementFits : ℕ → Statement → Type 0
  StatementFits n (block ss) = StatementsFit n ss
  StatementFits n (if_else e s t) = ExpressionFits n e × StatementFits n s × ElseFits n t
  StatementFits n (while e s) = ExpressionFits n e × StatementFits n s
  StatementFits n (return place e) = ValueFits n e
  StatementFits n (throw place e) = ValueFits n e
  StatementFits n (try ss hs) = StatementsFit n ss × HandlersFit n hs
  StatementFits n (assign names e) = PathFits n names × ExpressionFits n e
  StatementFits n (evaluate e) = ExpressionFits n e
  StatementFits n (local_int x e) = BoundFits n x.bound × ValueFits n e
  StatementFits n (local_ref x names) = NameFits n x.name × PathFits n names
  StatementFits n (local_object c x es) = BoundFits n x.bound × ExpressionsFit n es
  StatementFits n s = ⊤

  pub ElseFits : ℕ → Else → Type 0
  ElseFits n no_else = ⊤
  ElseFits n (else_do s) = StatementFits n s

  pub StatementsFit : ℕ → Statements → Type 0
  StatementsFit n no_statements = ⊤
  StatementsFit n (statement_then s ss) = StatementFits n s × StatementsFit n ss

  pub HandlersFit : ℕ → Handlers → Type 0
  HandlersFit n no_handlers = ⊤
  HandlersFit n (handler_then t x ss place hs) = StatementsFit n ss × HandlersFit n hs

abbrev pub BodyFits : ℕ → Option Statements → Type 0
BodyFits n None = ⊤
BodyFits n (Some ss) = StatementsFit n ss

abbrev pub InitialisersFit : ℕ → List Initialiser → Type 0
InitialisersFit n [] = ⊤
InitialisersFit n (i ∷ is) = ExpressionsFit n i.arguments × InitialisersFit n is

-- the names of a function's initialisers and of its body
pub record VariablesAreNumbered (f : Function) : Type 0 where
  pub initialisers : InitialisersFit (length (variables_of f)) f.initialisers
  pub body : BodyFits (length (variables_of f)) f.body
