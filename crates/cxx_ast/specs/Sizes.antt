-- The sizes that rules count (profile): of classes, whose base and members stand without gaps, and of a function's variables.
use Rattle.std.specs.Prelude.{ℕ, ◌+◌, ◌*◌, ◌/◌, max, List, [], ◌∷◌, length, Option, Some, None, slice_get}
use Rattle.cxx_ast.specs.declared.name.Bound.{Bound}
use Rattle.cxx_ast.specs.declared.name.Bound.TheVariants.{Class}
use Rattle.cxx_ast.specs.declared.types.Ty.{Ty}
use Rattle.cxx_ast.specs.declared.types.Ty.TheVariants.{Object}
use Rattle.cxx_ast.specs.Plain.{Expression, number, path, paren, unary, binary, call, std_call, Expressions, no_expressions, expression_then, Statement, block, if_else, while, return, throw, try, assign, evaluate, local_int, local_ref, local_object, Else, no_else, else_do, Statements, no_statements, statement_then, Handlers, no_handlers, handler_then, Initialiser, Function}
use Rattle.cxx_ast.specs.Environment.{Kind, class_kind, Field, Environment}

-- the size of class k
abbrev pub class_size : Environment → ℕ → ℕ
class_size env k = elim (slice_get env.classes k) [ None ↦ 0 | Some c ↦ c.size ]

-- the size of a data member: 4 for an int
abbrev pub kind_size : Environment → Kind → ℕ
kind_size env (class_kind k) = class_size env k
kind_size env _ = 4

-- the size of data members without gaps
abbrev pub fields_size : Environment → List Field → ℕ
fields_size env [] = 0
fields_size env (f ∷ fs) = kind_size env f.kind + fields_size env fs

-- the size of a class by its base and its data members; one without both has 4
abbrev pub size_of : Environment → Option ℕ → List Field → ℕ
size_of env None [] = 4
size_of env None fs = fields_size env fs
size_of env (Some b) fs = class_size env b + fields_size env fs

-- how many classes a chain of bases has, with the class itself
abbrev pub chain_of : Environment → Option ℕ → ℕ
chain_of env None = 1
chain_of env (Some b) = elim (slice_get env.classes b) [ None ↦ 1 | Some c ↦ c.chain + 1 ]

-- the bytes of an object of the class that a name is bound to, up to a multiple of 8
abbrev pub object_bytes : Environment → Bound → ℕ
object_bytes env (Class k) = (class_size env k + 7) / 8 * 8
object_bytes env _ = 0

-- the bytes of a variable of a type, whose class's name is bound: an int or a reference has 8
abbrev pub variable_bytes : Environment → Ty → ℕ
variable_bytes env (Object n) = object_bytes env n.bound
variable_bytes env _ = 8

-- the bytes of what a handler catches
abbrev pub caught_bytes : Environment → Option Ty → ℕ
caught_bytes env None = 0
caught_bytes env (Some ty) = variable_bytes env ty

-- the bytes of the variables that a statement declares, with those of its inner scopes
abbrev mutual
  pub statement_bytes : Environment → Statement → ℕ
  statement_bytes env (block ss) = statements_bytes env ss
  statement_bytes env (if_else e s other) = statement_bytes env s + else_bytes env other
  statement_bytes env (while e s) = statement_bytes env s
  statement_bytes env (try ss hs) = statements_bytes env ss + handlers_bytes env hs
  statement_bytes env (local_int n e) = 8
  statement_bytes env (local_ref p names) = 8
  statement_bytes env (local_object c n es) = object_bytes env c.bound
  statement_bytes env _ = 0

  pub else_bytes : Environment → Else → ℕ
  else_bytes env no_else = 0
  else_bytes env (else_do s) = statement_bytes env s

  pub statements_bytes : Environment → Statements → ℕ
  statements_bytes env no_statements = 0
  statements_bytes env (statement_then s ss) = statement_bytes env s + statements_bytes env ss

  pub handlers_bytes : Environment → Handlers → ℕ
  handlers_bytes env no_handlers = 0
  handlers_bytes env (handler_then ty n ss place hs) = caught_bytes env ty + statements_bytes env ss + handlers_bytes env hs

-- the levels of an expression, and the most levels of several
abbrev mutual
  pub levels : Expression → ℕ
  levels (number n place) = 1
  levels (path names) = 1
  levels (paren e place) = levels e + 1
  levels (unary op e place) = levels e + 1
  levels (binary op a b) = max (levels a) (levels b) + 1
  levels (call names es) = most_levels es + 1
  levels (std_call n es place) = most_levels es + 1

  pub most_levels : Expressions → ℕ
  most_levels no_expressions = 0
  most_levels (expression_then e es) = max (levels e) (most_levels es)

-- the arguments of the calls in an expression, and several expressions with the arguments in them
abbrev mutual
  pub arguments_in : Expression → ℕ
  arguments_in (number n place) = 0
  arguments_in (path names) = 0
  arguments_in (paren e place) = arguments_in e
  arguments_in (unary op e place) = arguments_in e
  arguments_in (binary op a b) = arguments_in a + arguments_in b
  arguments_in (call names es) = arguments_of es
  arguments_in (std_call n es place) = arguments_of es

  pub arguments_of : Expressions → ℕ
  arguments_of no_expressions = 0
  arguments_of (expression_then e es) = 1 + arguments_in e + arguments_of es

-- a measure of a function's expressions: the most levels, and the most arguments of one statement, declaration or initialiser
pub record Most : Type 0 where
  pub levels : ℕ
  pub arguments : ℕ

-- of two measures the greater numbers
abbrev pub more_of : Most → Most → Most
more_of a b = record { levels = max a.levels b.levels; arguments = max a.arguments b.arguments }

-- no expression
abbrev pub nothing : Most
nothing = record { levels = 0; arguments = 0 }

-- one expression
abbrev pub most_in : Expression → Most
most_in e = record { levels = levels e; arguments = arguments_in e }

-- arguments
abbrev pub most_of : Expressions → Most
most_of es = record { levels = most_levels es; arguments = arguments_of es }

-- an expression, where there is one
abbrev pub most_in_value : Option Expression → Most
most_in_value None = nothing
most_in_value (Some e) = most_in e

-- the measure of statements
abbrev mutual
  pub statement_most : Statement → Most
  statement_most (block ss) = statements_most ss
  statement_most (if_else e s other) = more_of (most_in e) (more_of (statement_most s) (else_most other))
  statement_most (while e s) = more_of (most_in e) (statement_most s)
  statement_most (return place e) = most_in_value e
  statement_most (throw place e) = most_in_value e
  statement_most (try ss hs) = more_of (statements_most ss) (handlers_most hs)
  statement_most (assign names e) = most_in e
  statement_most (evaluate e) = most_in e
  statement_most (local_int n e) = most_in_value e
  statement_most (local_object c n es) = most_of es
  statement_most _ = nothing

  pub else_most : Else → Most
  else_most no_else = nothing
  else_most (else_do s) = statement_most s

  pub statements_most : Statements → Most
  statements_most no_statements = nothing
  statements_most (statement_then s ss) = more_of (statement_most s) (statements_most ss)

  pub handlers_most : Handlers → Most
  handlers_most no_handlers = nothing
  handlers_most (handler_then ty n ss place hs) = more_of (statements_most ss) (handlers_most hs)

-- the measure of initialisers
abbrev pub initialisers_most : List Initialiser → Most
initialisers_most [] = nothing
initialisers_most (i ∷ is) = more_of (most_of i.arguments) (initialisers_most is)

-- the bytes and the measure of a body
abbrev pub body_bytes : Environment → Option Statements → ℕ
body_bytes env None = 0
body_bytes env (Some ss) = statements_bytes env ss

-- the measure of a body
abbrev pub body_most : Option Statements → Most
body_most None = nothing
body_most (Some ss) = statements_most ss

-- the bytes of the variables of a function whose names are bound: those of its variables, and 8 for each level of its deepest expression and
-- for each argument of the statement, declaration or initialiser with the most
abbrev pub variables_bytes : Environment → Function → ℕ
variables_bytes env f =
    let m = more_of (initialisers_most f.initialisers) (body_most f.body) in
    8 * length f.parameters + body_bytes env f.body + 8 * m.levels + 8 * m.arguments
