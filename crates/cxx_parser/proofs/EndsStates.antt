-- Each state that is reached can be ended.
use Rattle.std.specs.Prelude.{ℕ, ◌+◌, ◌≡◌, pos, true, List, [], codes, Option, Some, None, refl}
use Rattle.std.proofs.Common.{arith}
use Rattle.cxx_ast.specs.declared.keyword.Keyword.TheVariants as keyword
use Rattle.cxx_ast.specs.declared.mark.Mark.TheVariants as sign
use Rattle.cxx_ast.specs.declared.name.Name.{Name}
use Rattle.cxx_ast.specs.declared.token.TokenKind.{TokenKind}
use Rattle.cxx_ast.specs.declared.token.TokenKind.TheVariants as kind
use Rattle.cxx_ast.specs.declared.types.Param.{Param}
use Rattle.cxx_ast.specs.declared.types.Ty.{Ty}
use Rattle.cxx_ast.specs.declared.types.Ty.TheVariants.{Int, IntRef}
use Rattle.cxx_ast.specs.Plain.{path, Declaration}
use Rattle.cxx_parser.specs.Contexts.{Heading, Holder, of_program, of_class, InStatement, in_then, in_else, in_while, in_block, InTry, in_try, InJump, of_return, of_throw, Pending, InExpression, InPath, of_operand, of_statement, of_reference, InType, of_param, of_local, InListed, of_specification, of_caught, of_const_caught, InName, of_path, of_std_operand, of_std_statement, of_referred, of_int, of_void, of_destructor, of_class_name, of_base, of_initialised}
use Rattle.cxx_parser.specs.Reading.{feed}
use Rattle.cxx_parser.specs.Signs.{is_kind}
use Rattle.cxx_parser.specs.States.{State, expect, want_name, want_operand, have_operand, have_expression, after_path, have_path, after_open, have_argument, after_const, after_value_type, have_type, want_listed, have_listed, have_types, want_caught, have_caught, want_statement, want_simple, want_plain, want_named, in_statements, have_statement, after_jump, after_first_name, after_only_name, after_int, after_int_name, after_object_name, after_handler, after_params_open, want_param, have_param, after_params, after_throw_open, after_noexcept, after_noexcept_open, have_signature, have_initialiser, after_declared, after_class_name, after_class_colon, in_class, want_member, after_member_name, after_assign, after_minus, want_declaration}
use Rattle.cxx_parser.specs.Types.{handler_body}
use Rattle.cxx_parser.proofs.EndsStatements.{Ends, comes, by_step, semicolon, close_brace, declarations_end, class_ends, body_ends, block_ends, statement_ends, handler_ends, end_ends, signature_ends, initialised_ends}
use Rattle.cxx_parser.proofs.EndsExpressions.{closer, closes_operand, closes_path, pending_depth, step_as, empty_ends, expression_ending, arguments_end, operand_ends}
use Rattle.cxx_parser.proofs.Past.{Passes, token}
use Rattle.cxx_parser.proofs.Sound.{SoundPath, SoundName, SoundNamed, Sound}

-- some name
abbrev some_name : TokenKind
some_name = kind.Name (codes "a")

-- the marks that end most
abbrev open_paren : TokenKind
open_paren = kind.Mark sign.OpenParen

abbrev close_paren : TokenKind
close_paren = kind.Mark sign.CloseParen

abbrev open_brace : TokenKind
open_brace = kind.Mark sign.OpenBrace

module _ (limit : ℕ) where
  -- a path that ended
  path_ends : (P : InPath) → SoundPath limit P → (names : List Name) (n : ℕ) → Ends limit n (after_path names P)
  unfolding feed
  path_ends (of_operand d ps E) s names n =
      by_step (closer E) (step_as limit (closes_path E n d names ps) (step_as limit (closes_operand E d (path names) ps) (expression_ending limit E s.3 (omega (arith, s.0, s.1, pending_depth limit ps E s.2)) _ n)))
  path_ends (of_statement d C) s names n = comes open_paren refl (comes close_paren refl (end_ends limit C _ (n + 1 + 1)))
  path_ends (of_reference p C) s names n = comes semicolon refl (statement_ends limit C _ (n + 1))

  -- parameters that ended
  params_end : (ps : List Param) (h : Heading) (n : ℕ) → Ends limit n (after_params ps h)
  unfolding feed
  params_end ps h n = comes open_brace refl (body_ends limit (n + 1) _)

  params_open_ends : (h : Heading) (n : ℕ) → Ends limit n (after_params_open h)
  unfolding feed
  params_open_ends h n = comes close_paren refl (params_end [] h (n + 1))

  -- a type that ended
  type_ends : (W : InType) (ty : Ty) (n : ℕ) → Ends limit n (have_type ty W)
  unfolding feed
  type_ends (of_param ps h) ty n = comes close_paren refl (params_end _ h (n + 1))
  type_ends (of_local C) ty n = comes some_name refl (comes (kind.Mark sign.Assign) refl (comes some_name refl (comes semicolon refl (statement_ends limit C _ (n + 1 + 1 + 1 + 1)))))

  const_ends : (W : InType) (n : ℕ) → Ends limit n (after_const W)
  unfolding feed
  const_ends W n = comes (kind.Word keyword.Int) refl (comes (kind.Mark sign.Amp) refl (type_ends W (IntRef true) (n + 1 + 1)))

  value_type_ends : (ps : List Param) (h : Heading) (ty : Ty) (n : ℕ) → Ends limit n (after_value_type ty (of_param ps h))
  unfolding feed
  value_type_ends ps h ty n = comes close_paren refl (params_end _ h (n + 1))

  -- what a handler catches ended
  handler_body_ends : (ty : Option Ty) (name : Option Name) (place : ℕ) (T : InTry) (n : ℕ) → Ends limit n (handler_body ty name place T)
  unfolding feed
  handler_body_ends ty name place (in_try ss cs c C) n = comes open_brace refl (comes close_brace refl (handler_ends limit _ (n + 1 + 1)))

  caught_ends : (ty : Ty) (place : ℕ) (T : InTry) (n : ℕ) → Ends limit n (have_caught ty place T)
  unfolding feed
  caught_ends ty place T n = comes close_paren refl (handler_body_ends (Some ty) None place T (n + 1))

  want_caught_ends : (T : InTry) (n : ℕ) → Ends limit n (want_caught T)
  unfolding feed
  want_caught_ends T n = comes (kind.Mark sign.Ellipsis) refl (comes close_paren refl (handler_body_ends None None 0 T (n + 1 + 1)))

  -- a type of a list ended
  listed_ends : (L : InListed) (ty : Ty) (n : ℕ) → Ends limit n (have_listed ty L)
  unfolding feed
  listed_ends (of_specification tys ps h) ty n = comes close_paren refl (signature_ends limit (n + 1) _)
  listed_ends (of_caught place T) ty n = comes close_paren refl (handler_body_ends (Some ty) None place T (n + 1))
  listed_ends (of_const_caught place T) ty n = comes (kind.Mark sign.Amp) refl (caught_ends _ place T (n + 1))

  want_listed_ends : (L : InListed) (n : ℕ) → Ends limit n (want_listed L)
  unfolding feed
  want_listed_ends L n = comes (kind.Word keyword.Int) refl (listed_ends L Int (n + 1))

  -- a declaration or a member whose name was read
  declared_ends : (m : Name) (start : ℕ) (H : Holder) (n : ℕ) → Ends limit n (after_declared m start H)
  unfolding feed
  declared_ends m start (of_program ds) n = comes semicolon refl (declarations_end limit (n + 1) _)
  declared_ends m start (of_class c) n = comes semicolon refl (class_ends limit (n + 1) _)

  class_name_ends : (m : Name) (ds : List Declaration) (n : ℕ) → Ends limit n (after_class_name m ds)
  unfolding feed
  class_name_ends m ds n = comes open_brace refl (class_ends limit (n + 1) _)

  -- a name must come
  name_ends : (N : InName) → SoundName limit N → (n : ℕ) → Ends limit n (want_name N)
  unfolding feed
  name_ends (of_path names P) s n = comes some_name refl (path_ends P s.1 _ (n + 1))
  name_ends (of_std_operand place d ps E) s n =
      comes some_name refl (comes open_paren refl (comes close_paren refl (operand_ends limit E s.3 d _ ps (n + 1 + 1 + 1) (omega (arith, s.0, s.1, pending_depth limit ps E s.2)))))
  name_ends (of_std_statement place d C) s n = comes some_name refl (comes open_paren refl (comes close_paren refl (end_ends limit C _ (n + 1 + 1 + 1))))
  name_ends (of_referred p C) s n = comes some_name refl (comes semicolon refl (statement_ends limit C _ (n + 1 + 1)))
  name_ends (of_int start h) s n = comes some_name refl (declared_ends _ start h (n + 1))
  name_ends (of_void start h) s n = comes some_name refl (comes open_paren refl (params_open_ends _ (n + 1 + 1)))
  name_ends (of_destructor start c) s n = comes some_name refl (comes open_paren refl (comes close_paren refl (params_end _ _ (n + 1 + 1 + 1))))
  name_ends (of_class_name ds) s n = comes some_name refl (class_name_ends _ ds (n + 1))
  name_ends (of_base c ds) s n = comes some_name refl (comes open_brace refl (class_ends limit (n + 1 + 1) _))
  name_ends (of_initialised sig) s n = comes some_name refl (comes open_paren refl (comes close_paren refl (initialised_ends limit (n + 1 + 1 + 1) _)))

  -- a statement that began with a name
  first_name_ends : (m : Name) (d : ℕ) (C : InStatement) → SoundNamed limit d C → (n : ℕ) → Ends limit n (after_first_name m d C)
  unfolding feed
  first_name_ends m d (in_then e c C) s n = comes open_paren (s.1, refl) (comes close_paren refl (end_ends limit (in_then e c C) _ (n + 1 + 1)))
  first_name_ends m d (in_else e r C) s n = comes open_paren (s.1, refl) (comes close_paren refl (end_ends limit (in_else e r C) _ (n + 1 + 1)))
  first_name_ends m d (in_while e C) s n = comes open_paren (s.1, refl) (comes close_paren refl (end_ends limit (in_while e C) _ (n + 1 + 1)))
  first_name_ends m d (in_block c ss B) s n = comes some_name refl (comes semicolon refl (statement_ends limit (in_block c ss B) _ (n + 1 + 1)))

  jump_ends : (jump : InJump) (d n : ℕ) → Ends limit n (after_jump d jump)
  unfolding feed
  jump_ends (of_return place C) d n = comes semicolon refl (statement_ends limit C _ (n + 1))
  jump_ends (of_throw place C) d n = comes semicolon refl (statement_ends limit C _ (n + 1))

  -- an operand must begin
  wanted_ends : (d : ℕ) (ps : List Pending) (E : InExpression) → Sound limit (want_operand d ps E) → (n : ℕ) → Ends limit n (want_operand d ps E)
  unfolding feed
  wanted_ends d ps E s n = comes (kind.Number (pos 0)) (s.0, refl) (operand_ends limit E s.1.2 d _ ps (n + 1) (omega (arith, s.0, s.1.0, pending_depth limit ps E s.1.1)))

  -- a token must come
  expected : (k : TokenKind) (s : State) (n : ℕ) → is_kind k k ≡ true → Passes limit (feed n (token k 0) (expect k s)) s
  unfolding feed
  expected k s n e = rw e refl

  -- what stands behind `noexcept (` must come
  truth_ends : (place : ℕ) (ps : List Param) (h : Heading) (n : ℕ) → Ends limit n (after_noexcept_open place ps h)
  unfolding feed
  truth_ends place ps h n = comes (kind.Word keyword.True) refl (comes close_paren refl (signature_ends limit (n + 1 + 1) _))

  -- each state that is reached
  pub completed : (s : State) → Sound limit s → (n : ℕ) → Ends limit n s
  unfolding feed
  completed (expect k s) g n = comes k (expected k s n g.0) (completed s g.1 (n + 1))
  completed (want_name N) g n = name_ends N g n
  completed (want_operand d ps E) g n = wanted_ends d ps E g n
  completed (have_operand d e ps E) g n = operand_ends limit E g.4 d e ps n (omega (arith, g.0, g.1.1, pending_depth limit ps E g.3))
  completed (have_expression e E) g n = by_step (closer E) (expression_ending limit E g.1 (omega (arith, g.0.1)) e n)
  completed (after_path names P) g n = path_ends P g.1 names n
  completed (have_path names P) g n = absurd g
  completed (after_open d K) g n = comes close_paren refl (arguments_end limit K g.1 [] (n + 1))
  completed (have_argument d es K) g n = comes close_paren refl (arguments_end limit K g.3 es (n + 1))
  completed (after_const W) g n = const_ends W n
  completed (after_value_type ty (of_param ps h)) g n = value_type_ends ps h ty n
  completed (after_value_type ty (of_local C)) g n = absurd g
  completed (have_type ty W) g n = type_ends W ty n
  completed (want_listed L) g n = want_listed_ends L n
  completed (have_listed ty L) g n = listed_ends L ty n
  completed (have_types tys ps h) g n = absurd g
  completed (want_caught T) g n = want_caught_ends T n
  completed (have_caught ty place T) g n = caught_ends ty place T n
  completed (want_statement d C) g n = empty_ends limit C d n g.0
  completed (want_simple d C) g n = absurd g
  completed (want_plain d C) g n = absurd g
  completed (want_named d C) g n = absurd g
  completed (in_statements d ss B) g n = comes close_brace refl (block_ends limit B n _ (n + 1))
  completed (have_statement s C) g n = statement_ends limit C s n
  completed (after_jump d jump) g n = jump_ends jump d n
  completed (after_first_name m d C) g n = first_name_ends m d C g n
  completed (after_only_name m d C) g n = absurd g
  completed (after_int d C) g n = comes some_name refl (comes semicolon refl (statement_ends limit C _ (n + 1 + 1)))
  completed (after_int_name m d C) g n = comes semicolon refl (statement_ends limit C _ (n + 1))
  completed (after_object_name c m d C) g n = comes semicolon refl (statement_ends limit C _ (n + 1))
  completed (after_handler T) g n = handler_ends limit T n
  completed (after_params_open h) g n = params_open_ends h n
  completed (want_param ps h) g n = comes (kind.Word keyword.Int) refl (value_type_ends ps h Int (n + 1))
  completed (have_param ps h) g n = comes close_paren refl (params_end ps h (n + 1))
  completed (after_params ps h) g n = params_end ps h n
  completed (after_throw_open ps h) g n = comes close_paren refl (signature_ends limit (n + 1) _)
  completed (after_noexcept place ps h) g n = comes open_paren refl (truth_ends place ps h (n + 1))
  completed (after_noexcept_open place ps h) g n = truth_ends place ps h n
  completed (have_signature s) g n = signature_ends limit n s
  completed (have_initialiser s) g n = initialised_ends limit n s
  completed (after_declared m start h) g n = declared_ends m start h n
  completed (after_class_name m ds) g n = class_name_ends m ds n
  completed (after_class_colon m ds) g n = comes some_name refl (comes open_brace refl (class_ends limit (n + 1 + 1) _))
  completed (in_class c) g n = class_ends limit n c
  completed (want_member c) g n = absurd g
  completed (after_member_name m start c) g n = comes open_paren refl (params_open_ends _ (n + 1))
  completed (after_assign m ds) g n = comes (kind.Number (pos 0)) refl (comes semicolon refl (declarations_end limit (n + 1 + 1) _))
  completed (after_minus m ds) g n = comes (kind.Number (pos 0)) refl (comes semicolon refl (declarations_end limit (n + 1 + 1) _))
  completed (want_declaration ds) g n = declarations_end limit n ds
