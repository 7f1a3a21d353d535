-- The states of reading: what was read, and what may come.
use Rattle.std.specs.Prelude.{ℕ, Bool, List, max, if◌then◌else◌}
use Rattle.cxx_ast.specs.declared.name.Name.{Name}
use Rattle.cxx_ast.specs.declared.types.Ty.{Ty}
use Rattle.cxx_ast.specs.declared.types.Param.{Param}
use Rattle.cxx_ast.specs.declared.token.TokenKind.{TokenKind}
use Rattle.cxx_ast.specs.Plain.{Expression, Statement, Declaration}
use Rattle.cxx_parser.specs.Contexts.{OpenClass, Holder, Heading, Signature, InStatement, InBlock, InTry, InJump, Pending, InExpression, InCall, InPath, InType, InListed, InName}

pub data State : Type 0 where
  -- a token must come, and then the state
  expect : TokenKind → State → State
  -- a name must come
  want_name : InName → State
  -- an operand must begin at a depth
  want_operand : ℕ → List Pending → InExpression → State
  -- an operand at a depth was read, and an operator may come
  have_operand : ℕ → Expression → List Pending → InExpression → State
  -- an expression was read
  have_expression : Expression → InExpression → State
  -- names of a path were read, and `.` may come, or no more
  after_path : List Name → InPath → State
  have_path : List Name → InPath → State
  -- `(` was read, and arguments at a depth or `)` may come
  after_open : ℕ → InCall → State
  -- arguments at a depth were read, and another or `)` may come
  have_argument : ℕ → List Expression → InCall → State
  -- `const` was read, or a type that `&` may follow, or a whole type
  after_const : InType → State
  after_value_type : Ty → InType → State
  have_type : Ty → InType → State
  -- a type of a list must begin, or was read
  want_listed : InListed → State
  have_listed : Ty → InListed → State
  -- types of an exception specification were read, and another or `)` may come
  have_types : List Ty → List Param → Heading → State
  -- what a handler catches must begin, or was read but for its name; the number is its place
  want_caught : InTry → State
  have_caught : Ty → ℕ → InTry → State
  -- a statement must begin at a depth; or one that holds no other; or one that holds no bare value either; or one that begins with a name or declares a variable
  want_statement : ℕ → InStatement → State
  want_simple : ℕ → InStatement → State
  want_plain : ℕ → InStatement → State
  want_named : ℕ → InStatement → State
  -- statements of a block were read, and one at a depth or `}` may come
  in_statements : ℕ → List Statement → InBlock → State
  -- a statement was read, and `else` may come
  have_statement : Statement → InStatement → State
  -- `return` or `throw` was read in a statement at a depth
  after_jump : ℕ → InJump → State
  -- a name was read that begins a statement at a depth, or one that declares nothing
  after_first_name : Name → ℕ → InStatement → State
  after_only_name : Name → ℕ → InStatement → State
  -- `int`, an int's name, or a class and an object's name were read in a statement at a depth
  after_int : ℕ → InStatement → State
  after_int_name : Name → ℕ → InStatement → State
  after_object_name : Name → Name → ℕ → InStatement → State
  -- a handler was read, and another may come
  after_handler : InTry → State
  -- `(` of parameters was read; a parameter must begin behind others; parameters were read; `)` was read
  after_params_open : Heading → State
  want_param : List Param → Heading → State
  have_param : List Param → Heading → State
  after_params : List Param → Heading → State
  -- `throw (` of a specification was read
  after_throw_open : List Param → Heading → State
  -- `noexcept` was read at a place, and `(` may come; or that was read too, and `true` or `false` must come
  after_noexcept : ℕ → List Param → Heading → State
  after_noexcept_open : ℕ → List Param → Heading → State
  -- what stands before a body was read, but for initialisers, or with some
  have_signature : Signature → State
  have_initialiser : Signature → State
  -- a result `int` and a name were read, behind so many tokens
  after_declared : Name → ℕ → Holder → State
  -- `struct` and a name were read, or `:` too
  after_class_name : Name → List Declaration → State
  after_class_colon : Name → List Declaration → State
  -- members of a class were read, and another or `}` may come, or another must begin
  in_class : OpenClass → State
  want_member : OpenClass → State
  -- a name that begins a member was read, behind so many tokens
  after_member_name : Name → ℕ → OpenClass → State
  -- `int name =` was read, or a minus too
  after_assign : Name → List Declaration → State
  after_minus : Name → List Declaration → State
  -- declarations were read
  want_declaration : List Declaration → State

-- a token does not fit; a state is reached; or one is reached in which a node stands at a depth
pub data Step : Type 0 where
  stops : Step
  leads : State → Step
  within : ℕ → State → Step

-- a step that is none where something holds
abbrev pub unless : Bool → Step → Step
unless b step = if b then stops else step

-- a step to a state in which a node stands at a depth
abbrev pub within_step : ℕ → Step → Step
within_step depth stops = stops
within_step depth (leads s) = within depth s
within_step depth (within other s) = within (max depth other) s
