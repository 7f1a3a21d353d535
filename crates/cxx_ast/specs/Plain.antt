-- The trees of a program as plain data, with no trace of how they lie in memory: definitions speak of these, and `View` leads to them. A name, a type and a parameter are plain as they stand.
use Rattle.std.specs.Prelude.{ℕ, ℤ, Bool, List, Option}
use Rattle.cxx_ast.specs.declared.name.Name.{Name}
use Rattle.cxx_ast.specs.declared.types.Ty.{Ty}
use Rattle.cxx_ast.specs.declared.types.Param.{Param}
use Rattle.cxx_ast.specs.declared.expression.UnaryOp.{UnaryOp}
use Rattle.cxx_ast.specs.declared.expression.BinaryOp.{BinaryOp}
use Rattle.cxx_ast.specs.declared.declaration.FuncKind.{FuncKind}

-- a bare number is the place of the node's first token; `a.b.c` is the list of its three names
mutual
  pub data Expression : Type 0 where
    number : ℤ → ℕ → Expression
    path : List Name → Expression
    paren : Expression → ℕ → Expression
    unary : UnaryOp → Expression → ℕ → Expression
    binary : BinaryOp → Expression → Expression → Expression
    call : List Name → Expressions → Expression
    std_call : Name → Expressions → ℕ → Expression

  pub data Expressions : Type 0 where
    no_expressions : Expressions
    expression_then : Expression → Expressions → Expressions

-- a statement of a block may declare a local variable
mutual
  pub data Statement : Type 0 where
    block : Statements → Statement
    empty : Statement
    if_else : Expression → Statement → Else → Statement
    while : Expression → Statement → Statement
    return : ℕ → Option Expression → Statement
    break : ℕ → Statement
    continue : ℕ → Statement
    throw : ℕ → Option Expression → Statement
    try : Statements → Handlers → Statement
    assign : List Name → Expression → Statement
    evaluate : Expression → Statement
    local_int : Name → Option Expression → Statement
    local_ref : Param → List Name → Statement
    local_object : Name → Name → Expressions → Statement

  pub data Else : Type 0 where
    no_else : Else
    else_do : Statement → Else

  pub data Statements : Type 0 where
    no_statements : Statements
    statement_then : Statement → Statements → Statements

  -- the type is none for `catch (...)`; the place is that of the first token after the parenthesis
  pub data Handlers : Type 0 where
    no_handlers : Handlers
    handler_then : Option Ty → Option Name → Statements → ℕ → Handlers → Handlers

-- `name(arguments)` before the body of a constructor
pub record Initialiser : Type 0 where
  pub name : Name
  pub arguments : Expressions

-- an exception specification: `throw` with the types that it lists, or `noexcept` with the place of the word, and whether it is true
pub data Specification : Type 0 where
  listed : List Ty → Specification
  noexcept : ℕ → Bool → Specification

-- a function, with its exception specification and its number of tokens; a declaration alone has no body
pub record Function : Type 0 where
  pub name : Name
  pub kind : FuncKind
  pub result : Ty
  pub parameters : List Param
  pub specification : Option Specification
  pub initialisers : List Initialiser
  pub body : Option Statements
  pub tokens : ℕ

-- a class, with its data members and the functions that it declares
pub record Class : Type 0 where
  pub name : Name
  pub base : Option Name
  pub members : List Param
  pub functions : List Function

-- a declaration of a source; a global has its first value
pub data Declaration : Type 0 where
  class_declaration : Class → Declaration
  global_declaration : Name → ℤ → Declaration
  function_declaration : Function → Declaration

-- a source's declarations, its number of tokens and its length
pub record Program : Type 0 where
  pub declarations : List Declaration
  pub tokens : ℕ
  pub length : ℕ

-- a program that breaks no rule, in which every name is bound. `Class n`, `Global n` and `Func n` number these lists, and class 0 is
-- `std::bad_exception`. `Field c i` and `Method c i` are the i-th member and the i-th function of class c. `Local n` numbers the
-- declarations of one function in order, its parameters first.
pub record Checked : Type 0 where
  pub program : Program
  pub classes : List Class
  pub globals : List ℤ
  pub functions : List Function
  pub main : ℕ
