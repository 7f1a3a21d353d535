-- The trees in a state are grammatical, and stand no deeper than they may.
use Rattle.std.specs.Prelude.{ℕ, ◌+◌, ◌≡◌, ◌≤◌, ◌<◌, true, false, List, [], ◌∷◌, Some, None}
use Rattle.cxx_ast.specs.declared.declaration.FuncKind.{FuncKind}
use Rattle.cxx_ast.specs.declared.declaration.FuncKind.TheVariants.{Plain, Method, Constructor, Destructor}
use Rattle.cxx_ast.specs.declared.types.Ty.{Ty}
use Rattle.cxx_ast.specs.declared.types.Ty.TheVariants.{Int, Void}
use Rattle.cxx_ast.specs.declared.types.Param.{Param}
use Rattle.cxx_ast.specs.Depth.{below_expression, below_expressions, below_statement, below_statements, below_function}
use Rattle.cxx_ast.specs.Grammatical.{Each, NotEmpty, Where, There, IsReference, IsParamType, IsParam, IsListedType, IsSpecification, IsCaught, IsExpression, IsStatement, AreStatements, is_local, ends_open, IsResult, IsInitialiser, HasForm, IsDataMember, IsMemberKind}
use Rattle.cxx_ast.specs.Operator.{binary_level, level}
use Rattle.cxx_ast.specs.Plain.{Expression, Statement, Initialiser, Function, Declaration, class_declaration, global_declaration, function_declaration}
use Rattle.cxx_parser.specs.Contexts.{Holder, of_program, of_class, Heading, Signature, Caught, InStatement, in_then, in_else, in_while, in_block, InBlock, of_block, of_try, of_handler, of_function, InTry, in_try, InJump, of_return, of_throw, Pending, before_operand, behind_operand, InExpression, in_paren, in_argument, in_if_test, in_while_test, in_jump, in_assign, in_local_int, InCall, of_call, of_std_call, of_call_statement, of_std_call_statement, of_object, of_initialiser, InPath, of_operand, of_statement, of_reference, InType, of_param, of_local, InListed, of_specification, of_caught, of_const_caught, InName, of_path, of_std_operand, of_std_statement, of_referred, of_int, of_void, of_destructor, of_class_name, of_base, of_initialised}
use Rattle.cxx_parser.specs.States.{State, expect, want_name, want_operand, have_operand, have_expression, after_path, have_path, after_open, have_argument, after_const, after_value_type, have_type, want_listed, have_listed, have_types, want_caught, have_caught, want_statement, want_simple, want_plain, want_named, in_statements, have_statement, after_jump, after_first_name, after_only_name, after_int, after_int_name, after_object_name, after_handler, after_params_open, want_param, have_param, after_params, after_throw_open, after_noexcept, after_noexcept_open, have_signature, have_initialiser, after_declared, after_class_name, after_class_colon, in_class, want_member, after_member_name, after_assign, after_minus, want_declaration}
use Rattle.cxx_parser.specs.Signs.{is_kind}
use Rattle.cxx_parser.specs.Statements.{takes_locals, named_depth}

-- an expression, a statement or statements at a depth
abbrev pub ExpressionAt : ℕ → ℕ → Expression → Type 0
ExpressionAt limit d e = IsExpression e × (d + below_expression e ≤ limit)

abbrev pub StatementAt : ℕ → ℕ → Statement → Type 0
StatementAt limit d s = IsStatement s × (d + below_statement s ≤ limit)

-- the depth of what a context waits for
abbrev mutual
  pub statement_depth : InStatement → ℕ
  statement_depth (in_then e c C) = c + 1
  statement_depth (in_else e s C) = statement_depth C + 1
  statement_depth (in_while e C) = statement_depth C + 1
  statement_depth (in_block d ss B) = d

  pub block_depth : InBlock → ℕ
  block_depth (of_block C) = statement_depth C + 1
  block_depth (of_try c C) = c + 2
  block_depth (of_handler ty name place T) = try_depth T + 3
  block_depth (of_function s) = 3

  pub try_depth : InTry → ℕ
  try_depth (in_try ss cs c C) = c

abbrev pub jump_depth : InJump → ℕ
jump_depth (of_return place C) = statement_depth C
jump_depth (of_throw place C) = statement_depth C

abbrev pub call_depth : InCall → ℕ
call_depth (of_call names c ps E) = c + 1
call_depth (of_std_call n place c ps E) = c + 1
call_depth (of_call_statement names C) = statement_depth C + 2
call_depth (of_std_call_statement n place C) = statement_depth C + 2
call_depth (of_object c n C) = statement_depth C + 1
call_depth (of_initialiser n s) = 2

abbrev pub expression_depth : InExpression → ℕ
expression_depth (in_paren place c ps E) = c + 1
expression_depth (in_argument d es K) = d
expression_depth (in_if_test c C) = c + 1
expression_depth (in_while_test c C) = c + 1
expression_depth (in_jump jump) = jump_depth jump + 1
expression_depth (in_assign names C) = statement_depth C + 1
expression_depth (in_local_int n C) = statement_depth C + 1

abbrev pub operand_depth : List Pending → InExpression → ℕ
operand_depth [] E = expression_depth E
operand_depth (before_operand c op place ∷ ps) E = c + 1
operand_depth (behind_operand c op a ∷ ps) E = c + 1

-- a statement may stand where a context waits for one
abbrev pub IsAllowed : InStatement → Statement → Type 0
IsAllowed (in_block d ss B) s = Unit {0}
IsAllowed _ s = is_local s ≡ false

-- a function's parts before its body
abbrev pub HasBeginning : FuncKind → Heading → Type 0
HasBeginning Plain h = IsResult h.result
HasBeginning Method h = IsResult h.result
HasBeginning Constructor h = h.result ≡ Void
HasBeginning Destructor h = h.result ≡ Void

abbrev pub BelongsTo : FuncKind → Holder → Type 0
BelongsTo k (of_program ds) = k ≡ Plain
BelongsTo k (of_class c) = IsMemberKind k

-- functions, members and declarations that were read, but for their numbers of tokens
pub record IsSoundFunction (limit : ℕ) (f : Function) : Type 0 where
  pub form : HasForm f.kind f
  pub parameters : Each IsParam f.parameters
  pub specification : Where IsSpecification f.specification
  pub initialisers : Each IsInitialiser f.initialisers
  pub body : Where AreStatements f.body
  pub shallow : below_function f + 1 ≤ limit

abbrev pub IsSoundMember : ℕ → Function → Type 0
IsSoundMember limit f = IsSoundFunction limit f × IsMemberKind f.kind

abbrev pub IsSoundDeclaration : ℕ → Declaration → Type 0
IsSoundDeclaration limit (class_declaration c) = Each IsDataMember c.members × Each (IsSoundMember limit) c.functions
IsSoundDeclaration limit (global_declaration n value) = Unit {0}
IsSoundDeclaration limit (function_declaration f) = IsSoundFunction limit f × (f.kind ≡ Plain)

abbrev pub SoundHolder : ℕ → Holder → Type 0
SoundHolder limit (of_program ds) = Each (IsSoundDeclaration limit) ds
SoundHolder limit (of_class c) = Each IsDataMember c.members × Each (IsSoundMember limit) c.functions × Each (IsSoundDeclaration limit) c.before

abbrev pub SoundHeading : ℕ → Heading → Type 0
SoundHeading limit h = HasBeginning h.kind h × BelongsTo h.kind h.holder × SoundHolder limit h.holder

-- an initialiser, whose arguments stand at 2
abbrev pub InitialiserFits : ℕ → Initialiser → Type 0
InitialiserFits limit i = IsInitialiser i × (2 + below_expressions i.arguments ≤ limit + 1)

-- what a kind of function has besides
abbrev pub HasParts : FuncKind → Signature → Type 0
HasParts Constructor s = Unit {0}
HasParts Destructor s = (s.initialisers ≡ []) × (s.parameters ≡ [])
HasParts _ s = s.initialisers ≡ []

pub record SoundSignature (limit : ℕ) (s : Signature) : Type 0 where
  pub heading : SoundHeading limit s.heading
  pub parameters : Each IsParam s.parameters
  pub specification : Where IsSpecification s.specification
  pub initialisers : Each (InitialiserFits limit) s.initialisers
  pub parts : HasParts s.heading.kind s

-- a handler of a try at a depth
abbrev pub CaughtAt : ℕ → ℕ → Caught → Type 0
CaughtAt limit c h = IsCaught h.place h.type h.name × AreStatements h.body × (c + 2 + below_statements h.body ≤ limit)

-- contexts
abbrev mutual
  pub SoundStatement : ℕ → InStatement → Type 0
  SoundStatement limit (in_then e c C) = (c ≡ statement_depth C) × ExpressionAt limit (c + 1) e × SoundStatement limit C
  SoundStatement limit (in_else e s C) = ExpressionAt limit (statement_depth C + 1) e × StatementAt limit (statement_depth C + 1) s × (is_local s ≡ false) × (ends_open s ≡ false) × SoundStatement limit C
  SoundStatement limit (in_while e C) = ExpressionAt limit (statement_depth C + 1) e × SoundStatement limit C
  SoundStatement limit (in_block d ss B) = (d ≡ block_depth B) × Each (StatementAt limit d) ss × SoundBlock limit B

  pub SoundBlock : ℕ → InBlock → Type 0
  SoundBlock limit (of_block C) = (statement_depth C ≤ limit) × SoundStatement limit C
  SoundBlock limit (of_try c C) = (c ≡ statement_depth C) × (c + 2 ≤ limit) × SoundStatement limit C
  SoundBlock limit (of_handler ty name place T) = IsCaught place ty name × SoundTry limit T
  SoundBlock limit (of_function s) = SoundSignature limit s

  pub SoundTry : ℕ → InTry → Type 0
  SoundTry limit (in_try ss cs c C) = (c ≡ statement_depth C) × (c + 2 ≤ limit) × (AreStatements ss × (c + 1 + below_statements ss ≤ limit)) × Each (CaughtAt limit c) cs × SoundStatement limit C

abbrev pub SoundJump : ℕ → InJump → Type 0
SoundJump limit (of_return place C) = (statement_depth C ≤ limit) × SoundStatement limit C
SoundJump limit (of_throw place C) = (statement_depth C ≤ limit) × SoundStatement limit C

-- what stands on waiting operators holds together tighter than the last of them binds
abbrev pub Stacked : List Pending → ℕ → Type 0
Stacked [] l = Unit {0}
Stacked (before_operand c op place ∷ ps) l = l ≡ 7
Stacked (behind_operand c op a ∷ ps) l = binary_level op < l

abbrev pub SoundPending : ℕ → List Pending → InExpression → Type 0
SoundPending limit [] E = Unit {0}
SoundPending limit (before_operand c op place ∷ ps) E = (c ≡ operand_depth ps E) × SoundPending limit ps E
SoundPending limit (behind_operand c op a ∷ ps) E = (c ≡ operand_depth ps E) × ExpressionAt limit (c + 1) a × (binary_level op ≤ level a) × Stacked ps (binary_level op) × SoundPending limit ps E

abbrev mutual
  pub SoundExpression : ℕ → InExpression → Type 0
  SoundExpression limit (in_paren place c ps E) = (c ≡ operand_depth ps E) × SoundPending limit ps E × SoundExpression limit E
  SoundExpression limit (in_argument d es K) = (d ≡ call_depth K) × Each (ExpressionAt limit d) es × SoundCall limit K
  SoundExpression limit (in_if_test c C) = (c ≡ statement_depth C) × SoundStatement limit C
  SoundExpression limit (in_while_test c C) = (c ≡ statement_depth C) × SoundStatement limit C
  SoundExpression limit (in_jump jump) = SoundJump limit jump
  SoundExpression limit (in_assign names C) = NotEmpty names × SoundStatement limit C
  SoundExpression limit (in_local_int n C) = (takes_locals C ≡ true) × SoundStatement limit C

  pub SoundCall : ℕ → InCall → Type 0
  SoundCall limit (of_call names c ps E) = NotEmpty names × (c ≡ operand_depth ps E) × (c ≤ limit) × SoundPending limit ps E × SoundExpression limit E
  SoundCall limit (of_std_call n place c ps E) = (c ≡ operand_depth ps E) × (c ≤ limit) × SoundPending limit ps E × SoundExpression limit E
  SoundCall limit (of_call_statement names C) = NotEmpty names × (statement_depth C + 1 ≤ limit) × SoundStatement limit C
  SoundCall limit (of_std_call_statement n place C) = (statement_depth C + 1 ≤ limit) × SoundStatement limit C
  SoundCall limit (of_object c n C) = (takes_locals C ≡ true) × (statement_depth C ≤ limit) × SoundStatement limit C
  SoundCall limit (of_initialiser n s) = SoundSignature limit s × (s.heading.kind ≡ Constructor)

abbrev pub SoundPath : ℕ → InPath → Type 0
SoundPath limit (of_operand d ps E) = (d ≡ operand_depth ps E) × (d ≤ limit) × SoundPending limit ps E × SoundExpression limit E
SoundPath limit (of_statement d C) = (d ≡ statement_depth C) × (d + 1 ≤ limit) × SoundStatement limit C
SoundPath limit (of_reference p C) = IsReference p.ty × There p.name × (takes_locals C ≡ true) × (statement_depth C ≤ limit) × SoundStatement limit C

abbrev pub SoundType : ℕ → InType → Type 0
SoundType limit (of_param ps h) = Each IsParam ps × SoundHeading limit h × (h.kind ≡ Destructor → ⊥)
SoundType limit (of_local C) = (takes_locals C ≡ true) × (statement_depth C ≤ limit) × SoundStatement limit C

abbrev pub SoundListed : ℕ → InListed → Type 0
SoundListed limit (of_specification tys ps h) = Each IsListedType tys × Each IsParam ps × SoundHeading limit h × (h.kind ≡ Destructor → ps ≡ [])
SoundListed limit (of_caught place T) = SoundTry limit T
SoundListed limit (of_const_caught place T) = SoundTry limit T

-- a parameter or a local reference may have a type
abbrev pub TypeFits : InType → Ty → Type 0
TypeFits (of_param ps h) ty = IsParamType ty
TypeFits (of_local C) ty = IsReference ty

-- what a listed type was read behind
abbrev pub ListedFits : InListed → Ty → Type 0
ListedFits (of_specification tys ps h) ty = IsListedType ty
ListedFits (of_caught place T) ty = IsListedType ty × IsCaught place (Some ty) None
ListedFits (of_const_caught place T) ty = IsListedType ty

abbrev pub IsReadType : InListed → Type 0
IsReadType (of_caught place T) = ⊥
IsReadType _ = Unit {0}

-- parameters are none where a destructor has them
abbrev pub SoundParams : ℕ → List Param → Heading → Type 0
SoundParams limit ps h = Each IsParam ps × SoundHeading limit h × (h.kind ≡ Destructor → ps ≡ [])

abbrev pub SoundName : ℕ → InName → Type 0
SoundName limit (of_path names P) = NotEmpty names × SoundPath limit P
SoundName limit (of_std_operand place d ps E) = (d ≡ operand_depth ps E) × (d ≤ limit) × SoundPending limit ps E × SoundExpression limit E
SoundName limit (of_std_statement place d C) = (d ≡ statement_depth C) × (d + 1 ≤ limit) × SoundStatement limit C
SoundName limit (of_referred p C) = IsReference p.ty × There p.name × (takes_locals C ≡ true) × (statement_depth C ≤ limit) × SoundStatement limit C
SoundName limit (of_int start h) = SoundHolder limit h
SoundName limit (of_void start h) = SoundHolder limit h
SoundName limit (of_destructor start c) = SoundHolder limit (of_class c)
SoundName limit (of_class_name ds) = SoundHolder limit (of_program ds)
SoundName limit (of_base n ds) = SoundHolder limit (of_program ds)
SoundName limit (of_initialised s) = SoundSignature limit s × (s.heading.kind ≡ Constructor)

-- a local variable may be declared at a depth
abbrev pub SoundLocal : ℕ → ℕ → InStatement → Type 0
SoundLocal limit d C = (d ≡ statement_depth C) × (d ≤ limit) × (takes_locals C ≡ true) × SoundStatement limit C

-- an operand may begin at a depth
abbrev pub SoundWanted : ℕ → ℕ → List Pending → InExpression → Type 0
SoundWanted limit d ps E = (d ≡ operand_depth ps E) × SoundPending limit ps E × SoundExpression limit E

-- a statement may begin at a depth, or has begun with a name
abbrev pub SoundStanding : ℕ → ℕ → InStatement → Type 0
SoundStanding limit d C = (d ≡ statement_depth C) × SoundStatement limit C

abbrev pub SoundNamed : ℕ → ℕ → InStatement → Type 0
SoundNamed limit d C = (d ≡ statement_depth C) × (named_depth d (takes_locals C) ≤ limit) × SoundStatement limit C

-- a state that is reached
abbrev pub Sound : ℕ → State → Type 0
Sound limit (expect k s) = (is_kind k k ≡ true) × Sound limit s
Sound limit (want_name N) = SoundName limit N
Sound limit (want_operand d ps E) = (d ≤ limit) × SoundWanted limit d ps E
Sound limit (have_operand d e ps E) = (d ≡ operand_depth ps E) × ExpressionAt limit d e × (level e ≡ 7) × SoundPending limit ps E × SoundExpression limit E
Sound limit (have_expression e E) = ExpressionAt limit (expression_depth E) e × SoundExpression limit E
Sound limit (after_path names P) = NotEmpty names × SoundPath limit P
Sound limit (have_path names P) = ⊥
Sound limit (after_open d K) = (d ≡ call_depth K) × SoundCall limit K
Sound limit (have_argument d es K) = (d ≤ limit) × (d ≡ call_depth K) × Each (ExpressionAt limit d) es × SoundCall limit K
Sound limit (after_const W) = SoundType limit W
Sound limit (after_value_type ty (of_param ps h)) = (ty ≡ Int) × SoundType limit (of_param ps h)
Sound limit (after_value_type ty (of_local C)) = ⊥
Sound limit (have_type ty W) = TypeFits W ty × SoundType limit W
Sound limit (want_listed L) = IsReadType L × SoundListed limit L
Sound limit (have_listed ty L) = ListedFits L ty × SoundListed limit L
Sound limit (have_types tys ps h) = ⊥
Sound limit (want_caught T) = SoundTry limit T
Sound limit (have_caught ty place T) = IsCaught place (Some ty) None × SoundTry limit T
Sound limit (want_statement d C) = (d ≤ limit) × SoundStanding limit d C
Sound limit (want_simple d C) = ⊥
Sound limit (want_plain d C) = ⊥
Sound limit (want_named d C) = ⊥
Sound limit (in_statements d ss B) = (d ≡ block_depth B) × Each (StatementAt limit d) ss × SoundBlock limit B
Sound limit (have_statement s C) = StatementAt limit (statement_depth C) s × IsAllowed C s × (ends_open s ≡ false) × SoundStatement limit C
Sound limit (after_jump d jump) = (d ≡ jump_depth jump) × SoundJump limit jump
Sound limit (after_first_name n d C) = SoundNamed limit d C
Sound limit (after_only_name n d C) = ⊥
Sound limit (after_int d C) = SoundLocal limit d C
Sound limit (after_int_name n d C) = SoundLocal limit d C
Sound limit (after_object_name c n d C) = SoundLocal limit d C
Sound limit (after_handler (in_try ss cs c C)) = SoundTry limit (in_try ss cs c C) × NotEmpty cs
Sound limit (after_params_open h) = SoundHeading limit h × (h.kind ≡ Destructor → ⊥)
Sound limit (want_param ps h) = Each IsParam ps × SoundHeading limit h × (h.kind ≡ Destructor → ⊥)
Sound limit (have_param ps h) = Each IsParam ps × SoundHeading limit h × (h.kind ≡ Destructor → ⊥)
Sound limit (after_params ps h) = SoundParams limit ps h
Sound limit (after_throw_open ps h) = SoundParams limit ps h
Sound limit (after_noexcept place ps h) = SoundParams limit ps h
Sound limit (after_noexcept_open place ps h) = SoundParams limit ps h
Sound limit (have_signature s) = SoundSignature limit s × (s.initialisers ≡ [])
Sound limit (have_initialiser s) = SoundSignature limit s × (s.heading.kind ≡ Constructor)
Sound limit (after_declared n start h) = SoundHolder limit h
Sound limit (after_class_name n ds) = SoundHolder limit (of_program ds)
Sound limit (after_class_colon n ds) = SoundHolder limit (of_program ds)
Sound limit (in_class c) = SoundHolder limit (of_class c)
Sound limit (want_member c) = ⊥
Sound limit (after_member_name n start c) = SoundHolder limit (of_class c)
Sound limit (after_assign n ds) = SoundHolder limit (of_program ds)
Sound limit (after_minus n ds) = SoundHolder limit (of_program ds)
Sound limit (want_declaration ds) = SoundHolder limit (of_program ds)
