-- The pieces that stand before what a state waits for, back to the first of its function or global.
use Rattle.std.specs.Prelude.{ℕ, Bool, true, false, List, [], ◌∷◌}
use Rattle.cxx_ast.specs.declared.declaration.FuncKind.{FuncKind}
use Rattle.cxx_ast.specs.declared.declaration.FuncKind.TheVariants.{Destructor}
use Rattle.cxx_ast.specs.declared.keyword.Keyword.TheVariants as keyword
use Rattle.cxx_ast.specs.declared.mark.Mark.TheVariants as sign
use Rattle.cxx_ast.specs.declared.types.Ty.{Ty}
use Rattle.cxx_ast.specs.declared.types.Param.{Param}
use Rattle.cxx_ast.specs.Operator.{unary_mark, binary_mark}
use Rattle.cxx_ast.specs.Piece.{Piece, named, word, mark, word_at, mark_at}
use Rattle.cxx_ast.specs.Plain.{Expression, Initialiser}
use Rattle.cxx_ast.specs.Spelling.{Spelling, spell_type, spell_param, spell_path, spell_expression, spell_caught, spell_statement, spell_statements, spell_handlers}
use Rattle.cxx_ast.specs.Written.{spell_params, spell_specification, spell_initialisers, spell_result}
use Rattle.cxx_parser.specs.Contexts.{Holder, Heading, Signature, InStatement, in_then, in_else, in_while, in_block, InBlock, of_block, of_try, of_handler, of_function, InTry, in_try, InJump, of_return, of_throw, Pending, before_operand, behind_operand, InExpression, in_paren, in_argument, in_if_test, in_while_test, in_jump, in_assign, in_local_int, InCall, of_call, of_std_call, of_call_statement, of_std_call_statement, of_object, of_initialiser, InPath, of_operand, of_statement, of_reference, InType, of_param, of_local, InListed, of_specification, of_caught, of_const_caught}
use Rattle.cxx_parser.specs.Stored.{statements_from, handlers_from}

-- a function's result, its name and `(`
abbrev pub spell_heading : Heading → Spelling
spell_heading h x = spell_result h.kind h.result (named h.name ∷ mark sign.OpenParen ∷ x)

-- all that stands before a body
abbrev pub spell_signature : Signature → Spelling
spell_signature s x = spell_heading s.heading (spell_params s.parameters (mark sign.CloseParen ∷ spell_specification s.in_full s.specification (spell_initialisers s.initialisers x)))

-- what stands before an initialiser behind others
abbrev pub separator : List Initialiser → Piece
separator [] = mark sign.Colon
separator (i ∷ is) = mark sign.Comma

-- items, each with a comma behind it
abbrev pub spell_given : List Expression → Spelling
spell_given [] x = x
spell_given (e ∷ es) x = spell_expression e (mark sign.Comma ∷ spell_given es x)

abbrev pub spell_given_params : List Param → Spelling
spell_given_params [] x = x
spell_given_params (p ∷ ps) x = spell_param p (mark sign.Comma ∷ spell_given_params ps x)

abbrev pub spell_given_types : List Ty → Spelling
spell_given_types [] x = x
spell_given_types (t ∷ ts) x = spell_type t (mark sign.Comma ∷ spell_given_types ts x)

-- what stands before a statement, a block or a handler
abbrev mutual
  pub before_statement : InStatement → Spelling
  before_statement (in_then e c C) x = before_statement C (word keyword.If ∷ mark sign.OpenParen ∷ spell_expression e (mark sign.CloseParen ∷ x))
  before_statement (in_else e s C) x = before_statement C (word keyword.If ∷ mark sign.OpenParen ∷ spell_expression e (mark sign.CloseParen ∷ spell_statement s (word keyword.Else ∷ x)))
  before_statement (in_while e C) x = before_statement C (word keyword.While ∷ mark sign.OpenParen ∷ spell_expression e (mark sign.CloseParen ∷ x))
  before_statement (in_block d ss B) x = before_block B (spell_statements (statements_from ss) x)

  pub before_block : InBlock → Spelling
  before_block (of_block C) x = before_statement C (mark sign.OpenBrace ∷ x)
  before_block (of_try c C) x = before_statement C (word keyword.Try ∷ mark sign.OpenBrace ∷ x)
  before_block (of_handler ty name place T) x = before_try T (word keyword.Catch ∷ mark sign.OpenParen ∷ spell_caught place ty name (mark sign.CloseParen ∷ mark sign.OpenBrace ∷ x))
  before_block (of_function s) x = spell_signature s (mark sign.OpenBrace ∷ x)

  pub before_try : InTry → Spelling
  before_try (in_try ss cs c C) x = before_statement C (word keyword.Try ∷ mark sign.OpenBrace ∷ spell_statements ss (mark sign.CloseBrace ∷ spell_handlers (handlers_from cs) x))

-- what stands before the value of a `return` or a `throw`
abbrev pub before_jump : InJump → Spelling
before_jump (of_return place C) x = before_statement C (word_at keyword.Return place ∷ x)
before_jump (of_throw place C) x = before_statement C (word_at keyword.Throw place ∷ x)

-- operators that wait, with their left operands
abbrev pub pending : List Pending → Spelling
pending [] x = x
pending (before_operand c op place ∷ ps) x = pending ps (mark_at (unary_mark op) place ∷ x)
pending (behind_operand c op a ∷ ps) x = pending ps (spell_expression a (mark (binary_mark op) ∷ x))

-- what stands before an expression or arguments
abbrev mutual
  pub before_expression : InExpression → Spelling
  before_expression (in_paren place c ps E) x = before_expression E (pending ps (mark_at sign.OpenParen place ∷ x))
  before_expression (in_argument d es K) x = before_call K (spell_given es x)
  before_expression (in_if_test c C) x = before_statement C (word keyword.If ∷ mark sign.OpenParen ∷ x)
  before_expression (in_while_test c C) x = before_statement C (word keyword.While ∷ mark sign.OpenParen ∷ x)
  before_expression (in_jump jump) x = before_jump jump x
  before_expression (in_assign names C) x = before_statement C (spell_path names (mark sign.Assign ∷ x))
  before_expression (in_local_int n C) x = before_statement C (word keyword.Int ∷ named n ∷ mark sign.Assign ∷ x)

  pub before_call : InCall → Spelling
  before_call (of_call names c ps E) x = before_expression E (pending ps (spell_path names (mark sign.OpenParen ∷ x)))
  before_call (of_std_call n place c ps E) x = before_expression E (pending ps (word_at keyword.Std place ∷ mark sign.ColonColon ∷ named n ∷ mark sign.OpenParen ∷ x))
  before_call (of_call_statement names C) x = before_statement C (spell_path names (mark sign.OpenParen ∷ x))
  before_call (of_std_call_statement n place C) x = before_statement C (word_at keyword.Std place ∷ mark sign.ColonColon ∷ named n ∷ mark sign.OpenParen ∷ x)
  before_call (of_object c n C) x = before_statement C (named c ∷ named n ∷ mark sign.OpenParen ∷ x)
  before_call (of_initialiser n s) x = spell_signature s (separator s.initialisers ∷ named n ∷ mark sign.OpenParen ∷ x)

-- what stands before a path, a type, or a type of a list
abbrev pub before_path : InPath → Spelling
before_path (of_operand d ps E) x = before_expression E (pending ps x)
before_path (of_statement d C) x = before_statement C x
before_path (of_reference p C) x = before_statement C (spell_param p (mark sign.Assign ∷ x))

abbrev pub before_type : InType → Spelling
before_type (of_param ps h) x = spell_heading h (spell_given_params ps x)
before_type (of_local C) x = before_statement C x

abbrev pub before_listed : InListed → Spelling
before_listed (of_specification tys ps h) x = spell_heading h (spell_params ps (mark sign.CloseParen ∷ word keyword.Throw ∷ mark sign.OpenParen ∷ spell_given_types tys x))
before_listed (of_caught place T) x = before_try T (word keyword.Catch ∷ mark sign.OpenParen ∷ x)
before_listed (of_const_caught place T) x = before_try T (word keyword.Catch ∷ mark sign.OpenParen ∷ word_at keyword.Const place ∷ x)

-- where a function or a global stands: what it belongs to, the number of tokens before its first one, and whether `~` is before that
pub record Site : Type 0 where
  pub holder : Holder
  pub start : ℕ
  pub tilde : Bool

-- a destructor
abbrev pub is_destructor : FuncKind → Bool
is_destructor Destructor = true
is_destructor _ = false

abbrev pub site_of : Heading → Site
site_of h = record { holder = h.holder; start = h.start; tilde = is_destructor h.kind }

-- the heading of the function that a statement, a block or a handler is in
abbrev mutual
  pub statement_heading : InStatement → Heading
  statement_heading (in_then e c C) = statement_heading C
  statement_heading (in_else e s C) = statement_heading C
  statement_heading (in_while e C) = statement_heading C
  statement_heading (in_block d ss B) = block_heading B

  pub block_heading : InBlock → Heading
  block_heading (of_block C) = statement_heading C
  block_heading (of_try c C) = statement_heading C
  block_heading (of_handler ty name place T) = try_heading T
  block_heading (of_function s) = s.heading

  pub try_heading : InTry → Heading
  try_heading (in_try ss cs c C) = statement_heading C

abbrev pub jump_heading : InJump → Heading
jump_heading (of_return place C) = statement_heading C
jump_heading (of_throw place C) = statement_heading C

-- the heading of the function that an expression or arguments are in
abbrev mutual
  pub expression_heading : InExpression → Heading
  expression_heading (in_paren place c ps E) = expression_heading E
  expression_heading (in_argument d es K) = call_heading K
  expression_heading (in_if_test c C) = statement_heading C
  expression_heading (in_while_test c C) = statement_heading C
  expression_heading (in_jump jump) = jump_heading jump
  expression_heading (in_assign names C) = statement_heading C
  expression_heading (in_local_int n C) = statement_heading C

  pub call_heading : InCall → Heading
  call_heading (of_call names c ps E) = expression_heading E
  call_heading (of_std_call n place c ps E) = expression_heading E
  call_heading (of_call_statement names C) = statement_heading C
  call_heading (of_std_call_statement n place C) = statement_heading C
  call_heading (of_object c n C) = statement_heading C
  call_heading (of_initialiser n s) = s.heading

abbrev pub path_heading : InPath → Heading
path_heading (of_operand d ps E) = expression_heading E
path_heading (of_statement d C) = statement_heading C
path_heading (of_reference p C) = statement_heading C

abbrev pub type_heading : InType → Heading
type_heading (of_param ps h) = h
type_heading (of_local C) = statement_heading C

abbrev pub listed_heading : InListed → Heading
listed_heading (of_specification tys ps h) = h
listed_heading (of_caught place T) = try_heading T
listed_heading (of_const_caught place T) = try_heading T
