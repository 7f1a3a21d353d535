-- What waits for the part that is being read, with what was read of it so far. A bare number is a depth or a place, as its comment says.
use Rattle.std.specs.Prelude.{ℕ, Bool, List, Option}
use Rattle.cxx_ast.specs.declared.expression.UnaryOp.{UnaryOp}
use Rattle.cxx_ast.specs.declared.expression.BinaryOp.{BinaryOp}
use Rattle.cxx_ast.specs.declared.declaration.FuncKind.{FuncKind}
use Rattle.cxx_ast.specs.declared.name.Name.{Name}
use Rattle.cxx_ast.specs.declared.types.Ty.{Ty}
use Rattle.cxx_ast.specs.declared.types.Param.{Param}
use Rattle.cxx_ast.specs.Plain.{Expression, Statement, Statements, Initialiser, Specification, Function, Declaration}

-- a class whose members are being read, and the declarations before it
pub record OpenClass : Type 0 where
  pub name : Name
  pub base : Option Name
  pub members : List Param
  pub functions : List Function
  pub before : List Declaration

-- what a function belongs to: the program, with the declarations before it, or a class
pub data Holder : Type 0 where
  of_program : List Declaration → Holder
  of_class : OpenClass → Holder

-- what stands before a function's parameters, and the number of tokens before its first one
pub record Heading : Type 0 where
  pub kind : FuncKind
  pub result : Ty
  pub name : Name
  pub start : ℕ
  pub holder : Holder

-- what stands before a function's body, and whether `(true)` stands behind a `noexcept`
pub record Signature : Type 0 where
  pub heading : Heading
  pub parameters : List Param
  pub specification : Option Specification
  pub in_full : Bool
  pub initialisers : List Initialiser

-- a handler that was read, with its place
pub record Caught : Type 0 where
  pub type : Option Ty
  pub name : Option Name
  pub body : Statements
  pub place : ℕ

-- a statement waits behind `if (e)` at a depth, behind its `else`, behind `while (e)`, or in a block whose statements stand at a depth
mutual
  pub data InStatement : Type 0 where
    in_then : Expression → ℕ → InStatement → InStatement
    in_else : Expression → Statement → InStatement → InStatement
    in_while : Expression → InStatement → InStatement
    in_block : ℕ → List Statement → InBlock → InStatement

  -- a block is a statement, or that of a try at a depth, of a handler at a place, or of a function
  pub data InBlock : Type 0 where
    of_block : InStatement → InBlock
    of_try : ℕ → InStatement → InBlock
    of_handler : Option Ty → Option Name → ℕ → InTry → InBlock
    of_function : Signature → InBlock

  -- a try at a depth, with its block and its handlers so far
  pub data InTry : Type 0 where
    in_try : Statements → List Caught → ℕ → InStatement → InTry

-- an operator that waits for its operand: before it, with its own place, or behind the left one; the first number is the depth of its node
pub data Pending : Type 0 where
  before_operand : ℕ → UnaryOp → ℕ → Pending
  behind_operand : ℕ → BinaryOp → Expression → Pending

-- the value of a `return` or a `throw` at a place
pub data InJump : Type 0 where
  of_return : ℕ → InStatement → InJump
  of_throw : ℕ → InStatement → InJump

-- an expression waits in parentheses with a place and a depth, among the arguments at a depth, or in a statement: behind `if (` or `while (` at a depth, behind `return` or `throw`, or as the value of a variable
mutual
  pub data InExpression : Type 0 where
    in_paren : ℕ → ℕ → List Pending → InExpression → InExpression
    in_argument : ℕ → List Expression → InCall → InExpression
    in_if_test : ℕ → InStatement → InExpression
    in_while_test : ℕ → InStatement → InExpression
    in_jump : InJump → InExpression
    in_assign : List Name → InStatement → InExpression
    in_local_int : Name → InStatement → InExpression

  -- arguments belong to a call that is an operand at a depth, also of `std::` at a place, or a statement; to an object of a class; or to an initialiser
  pub data InCall : Type 0 where
    of_call : List Name → ℕ → List Pending → InExpression → InCall
    of_std_call : Name → ℕ → ℕ → List Pending → InExpression → InCall
    of_call_statement : List Name → InStatement → InCall
    of_std_call_statement : Name → ℕ → InStatement → InCall
    of_object : Name → Name → InStatement → InCall
    of_initialiser : Name → Signature → InCall

-- `a.b.c` is an operand at a depth, begins a statement at a depth, or is what a local reference refers to
pub data InPath : Type 0 where
  of_operand : ℕ → List Pending → InExpression → InPath
  of_statement : ℕ → InStatement → InPath
  of_reference : Param → InStatement → InPath

-- a type with `&` or `int` belongs to a parameter behind others, or to a local reference
pub data InType : Type 0 where
  of_param : List Param → Heading → InType
  of_local : InStatement → InType

-- a type is listed in an exception specification behind others, or caught by a handler at a place, behind `const` too
pub data InListed : Type 0 where
  of_specification : List Ty → List Param → Heading → InListed
  of_caught : ℕ → InTry → InListed
  of_const_caught : ℕ → InTry → InListed

-- a name waits behind `.`, behind `std ::` of an operand or of a statement at a place and a depth, behind the `=` of a local reference, or as that of a declaration
pub data InName : Type 0 where
  of_path : List Name → InPath → InName
  of_std_operand : ℕ → ℕ → List Pending → InExpression → InName
  of_std_statement : ℕ → ℕ → InStatement → InName
  of_referred : Param → InStatement → InName
  of_int : ℕ → Holder → InName
  of_void : ℕ → Holder → InName
  of_destructor : ℕ → OpenClass → InName
  of_class_name : List Declaration → InName
  of_base : Name → List Declaration → InName
  of_initialised : Signature → InName
