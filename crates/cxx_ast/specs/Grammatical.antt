-- The trees that the grammar makes (ISO/IEC 14882:2003, Annex A, and the parts of it that the profile keeps): operators by how they bind, and to the left; an `else` behind the nearest `if` (6.4); lists that are not empty.
use Rattle.std.specs.Prelude.{ℕ, ℤ, pos, negsuc, ◌≡◌, ◌≤◌, ◌<◌, Bool, true, false, List, [], ◌∷◌, length, Option, Some, None}
use Rattle.cxx_ast.specs.declared.name.Bound.TheVariants.{Free}
use Rattle.cxx_ast.specs.declared.name.Name.{Name}
use Rattle.cxx_ast.specs.declared.types.Ty.{Ty}
use Rattle.cxx_ast.specs.declared.types.Ty.TheVariants.{Int, Void, Object, IntRef, ObjectRef}
use Rattle.cxx_ast.specs.declared.types.Param.{Param}
use Rattle.cxx_ast.specs.declared.declaration.FuncKind.{FuncKind}
use Rattle.cxx_ast.specs.declared.declaration.FuncKind.TheVariants.{Plain, Method, Constructor, Destructor}
use Rattle.cxx_ast.specs.Plain.{Expression, number, path, paren, unary, binary, call, std_call, Expressions, no_expressions, expression_then, Statement, block, empty, if_else, while, return, break, continue, throw, try, assign, evaluate, local_int, local_ref, local_object, Else, no_else, else_do, Statements, no_statements, statement_then, Handlers, no_handlers, handler_then, Specification, listed, noexcept, Function, Initialiser}
use Rattle.cxx_ast.specs.Operator.{binary_level, level}
use Rattle.cxx_ast.specs.Spelling.{is_bad_exception}
use Rattle.cxx_ast.specs.Written.{Member, data_member, function_member, Start, no_start, start, Written, written_class, written_global, written_function, spell_function}

-- each item of a list
abbrev pub Each : {A : Type 0} → (A → Type 0) → List A → Type 0
Each P [] = Unit {0}
Each P (x ∷ xs) = P x × Each P xs

-- some item is there
abbrev pub NotEmpty : {A : Type 0} → List A → Type 0
NotEmpty [] = ⊥
NotEmpty (x ∷ xs) = Unit {0}

-- what holds of an option's value, where there is one
abbrev pub Where : {A : Type 0} → (A → Type 0) → Option A → Type 0
Where P None = Unit {0}
Where P (Some x) = P x

-- an option has a value
abbrev pub There : {A : Type 0} → Option A → Type 0
There None = ⊥
There (Some x) = Unit {0}

-- a literal has no sign
abbrev pub IsLiteral : ℤ → Type 0
IsLiteral (pos n) = Unit {0}
IsLiteral (negsuc n) = ⊥

-- a class that is named by one name
abbrev pub IsPlainName : Name → Type 0
IsPlainName n = is_bad_exception n ≡ false

-- the type of a global, a local variable or a member of type int or of a class
abbrev pub IsMemberType : Ty → Type 0
IsMemberType Int = Unit {0}
IsMemberType (Object n) = IsPlainName n
IsMemberType _ = ⊥

-- a reference to int or to a class that is named by one name
abbrev pub IsReference : Ty → Type 0
IsReference (IntRef const) = Unit {0}
IsReference (ObjectRef const n) = IsPlainName n
IsReference _ = ⊥

-- the type of a parameter
abbrev pub IsParamType : Ty → Type 0
IsParamType Int = Unit {0}
IsParamType t = IsReference t

-- a type in an exception specification, of which no name is bound
abbrev pub IsListedType : Ty → Type 0
IsListedType Int = Unit {0}
IsListedType (Object n) = n.bound ≡ Free
IsListedType _ = ⊥

-- an exception specification
abbrev pub IsSpecification : Specification → Type 0
IsSpecification (listed ts) = Each IsListedType ts
IsSpecification (noexcept place b) = Unit {0}

-- what a handler catches. Where its first token is the class's name, that stands at the handler's place; `catch (...)` has no parameter.
abbrev pub IsCaught : ℕ → Option Ty → Option Name → Type 0
IsCaught place None name = name ≡ None
IsCaught place (Some Int) name = Unit {0}
IsCaught place (Some (IntRef const)) name = Unit {0}
IsCaught place (Some (Object n)) name = (n.bound ≡ Free) × (n.place ≡ place)
IsCaught place (Some (ObjectRef false n)) name = (n.bound ≡ Free) × (n.place ≡ place)
IsCaught place (Some (ObjectRef true n)) name = n.bound ≡ Free
IsCaught place (Some Void) name = ⊥

-- an expression. The left operand binds at least as its operator does, the right one tighter, and an operand of `-` and `!` as these do.
abbrev mutual
  pub IsExpression : Expression → Type 0
  IsExpression (number n place) = IsLiteral n
  IsExpression (path names) = NotEmpty names
  IsExpression (paren e place) = IsExpression e
  IsExpression (unary op e place) = IsExpression e × (level e ≡ 7)
  IsExpression (binary op a b) = IsExpression a × IsExpression b × (binary_level op ≤ level a) × (binary_level op < level b)
  IsExpression (call names es) = NotEmpty names × AreExpressions es
  IsExpression (std_call n es place) = AreExpressions es

  pub AreExpressions : Expressions → Type 0
  AreExpressions no_expressions = Unit {0}
  AreExpressions (expression_then e es) = IsExpression e × AreExpressions es

-- a call, which alone may stand as a statement
abbrev pub IsCall : Expression → Type 0
IsCall (call names es) = Unit {0}
IsCall (std_call n es place) = Unit {0}
IsCall _ = ⊥

-- a statement that declares a local variable, which may stand in a block alone
abbrev pub is_local : Statement → Bool
is_local (local_int n e) = true
is_local (local_ref p names) = true
is_local (local_object c n es) = true
is_local _ = false

-- a statement whose last part is an `if` without `else`, to which an `else` behind it would belong
abbrev mutual
  pub ends_open : Statement → Bool
  ends_open (if_else e s other) = ends_open_else other
  ends_open (while e s) = ends_open s
  ends_open _ = false

  pub ends_open_else : Else → Bool
  ends_open_else no_else = true
  ends_open_else (else_do s) = ends_open s

-- a handler is there
abbrev pub SomeHandler : Handlers → Type 0
SomeHandler no_handlers = ⊥
SomeHandler (handler_then ty n ss place hs) = Unit {0}

-- what an `else` needs before it
abbrev pub ElseFits : Statement → Else → Type 0
ElseFits s no_else = Unit {0}
ElseFits s (else_do other) = ends_open s ≡ false

-- a statement, what stands behind `else`, the statements of a block, and handlers
abbrev mutual
  pub IsStatement : Statement → Type 0
  IsStatement (block ss) = AreStatements ss
  IsStatement empty = Unit {0}
  IsStatement (if_else e s other) = IsExpression e × IsStatement s × (is_local s ≡ false) × IsElse other × ElseFits s other
  IsStatement (while e s) = IsExpression e × IsStatement s × (is_local s ≡ false)
  IsStatement (return place e) = Where IsExpression e
  IsStatement (break place) = Unit {0}
  IsStatement (continue place) = Unit {0}
  IsStatement (throw place e) = Where IsExpression e
  IsStatement (try ss hs) = AreStatements ss × SomeHandler hs × AreHandlers hs
  IsStatement (assign names e) = NotEmpty names × IsExpression e
  IsStatement (evaluate e) = IsExpression e × IsCall e
  IsStatement (local_int n e) = Where IsExpression e
  IsStatement (local_ref p names) = IsReference p.ty × There p.name × NotEmpty names
  IsStatement (local_object c n es) = AreExpressions es

  pub IsElse : Else → Type 0
  IsElse no_else = Unit {0}
  IsElse (else_do s) = IsStatement s × (is_local s ≡ false)

  pub AreStatements : Statements → Type 0
  AreStatements no_statements = Unit {0}
  AreStatements (statement_then s ss) = IsStatement s × AreStatements ss

  pub AreHandlers : Handlers → Type 0
  AreHandlers no_handlers = Unit {0}
  AreHandlers (handler_then ty n ss place hs) = IsCaught place ty n × AreStatements ss × AreHandlers hs

-- the result of a function
abbrev pub IsResult : Ty → Type 0
IsResult Int = Unit {0}
IsResult Void = Unit {0}
IsResult _ = ⊥

-- a parameter
abbrev pub IsParam : Param → Type 0
IsParam p = IsParamType p.ty

-- an initialiser
abbrev pub IsInitialiser : Initialiser → Type 0
IsInitialiser i = AreExpressions i.arguments

-- what a function of a kind may have: a constructor or a destructor is recorded with the result `void`
abbrev pub HasForm : FuncKind → Function → Type 0
HasForm Plain f = IsResult f.result × (f.initialisers ≡ [])
HasForm Method f = IsResult f.result × (f.initialisers ≡ []) × There f.body
HasForm Constructor f = (f.result ≡ Void) × There f.body
HasForm Destructor f = (f.result ≡ Void) × (f.initialisers ≡ []) × (f.parameters ≡ []) × There f.body

-- a function, with its number of tokens
pub record IsFunction (f : Function) : Type 0 where
  pub form : HasForm f.kind f
  pub parameters : Each IsParam f.parameters
  pub specification : Where IsSpecification f.specification
  pub initialisers : Each IsInitialiser f.initialisers
  pub body : Where AreStatements f.body
  pub tokens : f.tokens ≡ length (spell_function f [])

-- a data member
abbrev pub IsDataMember : Param → Type 0
IsDataMember p = IsMemberType p.ty × There p.name

-- a function of a class
abbrev pub IsMemberKind : FuncKind → Type 0
IsMemberKind Plain = ⊥
IsMemberKind _ = Unit {0}

-- a member
abbrev pub IsMember : Member → Type 0
IsMember (data_member p) = IsDataMember p
IsMember (function_member f) = IsFunction f × IsMemberKind f.kind

-- a first value
abbrev pub IsStart : Start → Type 0
IsStart no_start = Unit {0}
IsStart (start minus n) = IsLiteral n

-- a declaration that the grammar makes
abbrev pub IsGrammatical : Written → Type 0
IsGrammatical (written_class n is_public base ms) = Each IsMember ms
IsGrammatical (written_global n s) = IsStart s
IsGrammatical (written_function f) = IsFunction f × (f.kind ≡ Plain)
