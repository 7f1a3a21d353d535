-- Statements that hold no others are read where they are spelled.
use Rattle.std.specs.Prelude.{ℕ, ◌+◌, ◌≡◌, ◌≤◌, max, Bool, true, false, List, [], ◌∷◌, Option, Some, None, nat_lt, refl, if◌then◌else◌}
use Rattle.std.proofs.Common.{ap, sym, ◌∙◌, subst, arith}
use Rattle.std.proofs.lemmas.Bool.Decides.{nat_tests}
use Rattle.cxx_ast.specs.declared.keyword.Keyword.TheVariants as keyword
use Rattle.cxx_ast.specs.declared.mark.Mark.{Mark}
use Rattle.cxx_ast.specs.declared.mark.Mark.TheVariants as sign
use Rattle.cxx_ast.specs.declared.name.Name.{Name}
use Rattle.cxx_ast.specs.declared.token.Token.{Token}
use Rattle.cxx_ast.specs.declared.token.TokenKind.{TokenKind}
use Rattle.cxx_ast.specs.declared.token.TokenKind.TheVariants as kind
use Rattle.cxx_ast.specs.declared.types.Param.{Param}
use Rattle.cxx_ast.specs.declared.types.Ty.{Ty}
use Rattle.cxx_ast.specs.declared.types.Ty.TheVariants.{Int, Void, Object, IntRef, ObjectRef}
use Rattle.cxx_ast.specs.Depth.{below_expression, below_expressions}
use Rattle.cxx_ast.specs.Grammatical.{NotEmpty, There, IsReference, IsExpression, AreExpressions, is_local}
use Rattle.cxx_ast.specs.Piece.{Piece, named, mark, word}
use Rattle.cxx_ast.specs.Plain.{Expression, call, std_call, Expressions, no_expressions, expression_then, Statement, assign, evaluate, local_int, local_ref, local_object}
use Rattle.cxx_ast.specs.Spelling.{spell_class, spell_dots, spell_type, spell_path, spell_expression, spell_arguments, spell_more, spell_statement}
use Rattle.cxx_parser.specs.Contexts.{InStatement, in_then, in_else, in_while, in_block, InJump, in_argument, in_jump, in_assign, in_local_int, of_call_statement, of_std_call_statement, of_object, of_statement, of_reference, of_local, of_std_statement, of_referred}
use Rattle.cxx_parser.specs.Expressions.{have_jump, feed_names}
use Rattle.cxx_parser.specs.Reading.{feed}
use Rattle.cxx_parser.specs.Signs.{is_mark, name_at}
use Rattle.cxx_parser.specs.States.{State, Step, stops, leads, within, within_step, expect, want_name, want_operand, after_path, after_open, after_const, have_type, want_statement, have_statement, after_jump, after_first_name, after_int, after_int_name, after_object_name}
use Rattle.cxx_parser.specs.Statements.{takes_locals, named_depth, feed_only_name, feed_class, feed_first_name}
use Rattle.cxx_parser.proofs.Behind.{behind, ends}
use Rattle.cxx_parser.proofs.Past.{Leads, next, ends_as, Passes, token, kind_leads, placed_leads, name_leads, Opening, opens, alike}
use Rattle.cxx_parser.proofs.ReadsExpressions.{from_listed, Begins, opening, reads_dots, reads, reads_arguments, reads_more}
use Rattle.cxx_parser.proofs.ReadsTypes.{begins_as, plain_spelled, reads_const_int, reads_const_class}
use Rattle.cxx_parser.proofs.Runs.{passed, passes}
use Rattle.cxx_parser.proofs.Sound.{IsAllowed}

-- where a variable is declared, it may be
pub local_taken : (C : InStatement) (s : Statement) → is_local s ≡ true → IsAllowed C s → takes_locals C ≡ true
local_taken (in_then e c C) s l a = cc
local_taken (in_else e r C) s l a = cc
local_taken (in_while e C) s l a = cc
local_taken (in_block d ss B) s l a = refl

-- a token behind a first name that declares nothing
abbrev pub Names : TokenKind → Type 0
Names k = (is_mark sign.Amp k ≡ false) × ((place : ℕ) → name_at k place ≡ None)

within_passed : (limit d : ℕ) (x : Step) → d ≤ limit → passed limit (within_step d x) ≡ passed limit x
within_passed limit d stops l = refl
within_passed limit d (leads s) l = passes limit d s l
within_passed limit d (within c s) l = go (nat_lt limit c) refl
  where
    go : (b : Bool) → nat_lt limit c ≡ b → passed limit (within (max d c) s) ≡ (if b then None else Some s)
    go true e = let deep : nat_lt limit (max d c) ≡ true = grind (arith, nat_tests) in rw deep refl
    go false e = passes limit (max d c) s (grind (arith, nat_tests))

only_name_alike : (limit n : ℕ) (t : Token) (m : Name) (d : ℕ) (C : InStatement) → d + 1 ≤ limit → Names t.kind → passed limit (feed n t (after_first_name m d C)) ≡ passed limit (feed n t (after_path (m ∷ []) (of_statement d C)))
unfolding feed
only_name_alike limit n t m d C l q = go (takes_locals C) ∙ within_passed limit (d + 1) (feed_names t (m ∷ []) (of_statement d C)) l
  where
    go : (b : Bool) → passed limit (if b then feed_class t m d C else feed_only_name t m d C) ≡ passed limit (feed_only_name t m d C)
    go true = rw (q.0, q.1 t.place, feed_class) refl
    go false = refl

jump_alike : (limit n : ℕ) (t : Token) (d : ℕ) (J : InJump) → Begins t.kind → passed limit (feed n t (after_jump d J)) ≡ passed limit (feed n t (want_operand (d + 1) [] (in_jump J)))
unfolding feed
jump_alike limit n t d J q = rw q.1 refl

dots_opening : (names : List Name) (m : Mark) (x : List Piece) → Names (kind.Mark m) → Opening Names (spell_dots names (mark m ∷ x))
dots_opening [] m x q = opens Names (mark m) x q
dots_opening (n ∷ names) m x q = opens Names (mark sign.Dot) (named n ∷ spell_dots names (mark m ∷ x)) (refl, λ place. refl)

module _ (limit total : ℕ) where
  -- `;`
  pub reads_end : (s : State) (x : List Piece) → Leads limit total (mark sign.Semicolon ∷ x) (expect (kind.Mark sign.Semicolon) s) x s
  unfolding feed
  reads_end s x = kind_leads (kind.Mark sign.Semicolon) (expect (kind.Mark sign.Semicolon) s) s (λ n place i. refl)

  -- `;` behind the value of a `return` or a `throw`
  ends_jump : (e : Expression) → IsExpression e → (d : ℕ) (J : InJump) (x : List Piece) → Leads limit total (mark sign.Semicolon ∷ x) (behind e d [] (in_jump J)) x (have_jump (Some e) J)
  unfolding feed
  ends_jump e g d J x =
      kind_leads (kind.Mark sign.Semicolon) _ _ (λ n p i. subst (λ (q : Step). Passes limit q (have_jump (Some e) J)) (sym (ends e g n (token (kind.Mark sign.Semicolon) p) refl refl refl d (in_jump J))) refl)

  -- what stands behind `return` or `throw`
  pub reads_jump_value : (e : Expression) → IsExpression e → (d : ℕ) (J : InJump) (x : List Piece) → d + 1 + below_expression e ≤ limit → Leads limit total (spell_expression e (mark sign.Semicolon ∷ x)) (after_jump d J) x (have_jump (Some e) J)
  reads_jump_value e g d J x l =
      alike Begins (after_jump d J) (want_operand (d + 1) [] (in_jump J)) (opening e (mark sign.Semicolon ∷ x) g) (λ n t q. jump_alike limit n t d J q)
      (next (reads limit total e g (d + 1) [] (in_jump J) (mark sign.Semicolon ∷ x) l tt) (ends_jump e g (d + 1) J x))

  pub reads_no_value : (d : ℕ) (J : InJump) (x : List Piece) → Leads limit total (mark sign.Semicolon ∷ x) (after_jump d J) x (have_jump None J)
  unfolding feed
  reads_no_value d J x = kind_leads (kind.Mark sign.Semicolon) (after_jump d J) (have_jump None J) (λ n place i. refl)

  -- a first name, which may declare nothing
  named_first : (b : Bool) (d : ℕ) → d + 1 ≤ limit → named_depth d b ≤ limit
  named_first true d l = omega (arith, l)
  named_first false d l = l

  reads_first_name : (m : Name) (d : ℕ) (C : InStatement) (x : List Piece) → d + 1 ≤ limit → Leads limit total (named m ∷ x) (want_statement d C) x (after_first_name m d C)
  unfolding feed
  reads_first_name m d C x l = name_leads m (want_statement d C) (λ o. after_first_name o d C) (λ n i. (named_first (takes_locals C) d l, refl))

  -- a path that begins a statement, and what comes behind it
  reads_first_path : (names : List Name) → NotEmpty names → (m : Mark) → Names (kind.Mark m) → (d : ℕ) (C : InStatement) (x : List Piece) → d + 1 ≤ limit → (y : List Piece) (last : State) → Leads limit total (mark m ∷ x) (after_path names (of_statement d C)) y last → Leads limit total (spell_path names (mark m ∷ x)) (want_statement d C) y last
  reads_first_path [] g m q d C x l y last h = absurd g
  reads_first_path (f ∷ names) g m q d C x l y last h =
      next (reads_first_name f d C (spell_dots names (mark m ∷ x)) l)
      (alike Names (after_first_name f d C) (after_path (f ∷ []) (of_statement d C)) (dots_opening names m x q) (λ n t r. only_name_alike limit n t f d C l r)
      (next (reads_dots limit total names (f ∷ []) (of_statement d C) (mark m ∷ x)) h))

  -- an assignment
  ends_assign : (e : Expression) → IsExpression e → (names : List Name) (d : ℕ) (C : InStatement) (x : List Piece) → Leads limit total (mark sign.Semicolon ∷ x) (behind e d [] (in_assign names C)) x (have_statement (assign names e) C)
  unfolding feed
  ends_assign e g names d C x =
      kind_leads (kind.Mark sign.Semicolon) _ _ (λ n p i. subst (λ (q : Step). Passes limit q (have_statement (assign names e) C)) (sym (ends e g n (token (kind.Mark sign.Semicolon) p) refl refl refl d (in_assign names C))) refl)

  pub reads_assign : (names : List Name) (e : Expression) → NotEmpty names → IsExpression e → (d : ℕ) (C : InStatement) (x : List Piece) → d + 1 + below_expression e ≤ limit → Leads limit total (spell_statement (assign names e) x) (want_statement d C) x (have_statement (assign names e) C)
  unfolding feed
  reads_assign names e g f d C x l =
      reads_first_path names g sign.Assign (refl, λ place. refl) d C (spell_expression e (mark sign.Semicolon ∷ x)) (omega (arith, l)) x (have_statement (assign names e) C)
      (next (kind_leads (kind.Mark sign.Assign) (after_path names (of_statement d C)) (want_operand (d + 1) [] (in_assign names C)) (λ n place i. refl))
      (next (reads limit total e f (d + 1) [] (in_assign names C) (mark sign.Semicolon ∷ x) l tt) (ends_assign e f names (d + 1) C x)))

  -- a call
  pub reads_call : (names : List Name) (es : Expressions) → NotEmpty names → AreExpressions es → (d : ℕ) (C : InStatement) (x : List Piece) → d + 1 + below_expressions es ≤ limit → Leads limit total (spell_statement (evaluate (call names es)) x) (want_statement d C) x (have_statement (evaluate (call names es)) C)
  unfolding feed
  reads_call names es g f d C x l =
      reads_first_path names g sign.OpenParen (refl, λ place. refl) d C (spell_arguments es (mark sign.CloseParen ∷ mark sign.Semicolon ∷ x)) (omega (arith, l)) x (have_statement (evaluate (call names es)) C)
      (next (kind_leads (kind.Mark sign.OpenParen) (after_path names (of_statement d C)) (after_open (d + 2) (of_call_statement names C)) (λ n place i. refl))
      (next (reads_arguments limit total es f (d + 2) (of_call_statement names C) (mark sign.Semicolon ∷ x) (omega (arith, l)))
      (ends_as (have_statement (evaluate (call names es)) C) (ap (λ q. have_statement (evaluate (call names q)) C) (from_listed es)) (reads_end (have_statement (evaluate (call names (_))) C) x))))

  pub reads_std_call : (m : Name) (es : Expressions) (place : ℕ) → AreExpressions es → (d : ℕ) (C : InStatement) (x : List Piece) → d + 1 + below_expressions es ≤ limit → Leads limit total (spell_statement (evaluate (std_call m es place)) x) (want_statement d C) x (have_statement (evaluate (std_call m es place)) C)
  unfolding feed
  reads_std_call m es place f d C x l =
      next (placed_leads (kind.Word keyword.Std) place (want_statement d C) (expect (kind.Mark sign.ColonColon) (want_name (of_std_statement place d C))) (λ n i. (omega (arith, l), refl)))
      (next (kind_leads (kind.Mark sign.ColonColon) (expect (kind.Mark sign.ColonColon) (want_name (of_std_statement place d C))) (want_name (of_std_statement place d C)) (λ n p i. refl))
      (next (name_leads m (want_name (of_std_statement place d C)) (λ o. expect (kind.Mark sign.OpenParen) (after_open (d + 2) (of_std_call_statement o place C))) (λ n i. refl))
      (next (kind_leads (kind.Mark sign.OpenParen) (expect (kind.Mark sign.OpenParen) (after_open (d + 2) (of_std_call_statement m place C))) (after_open (d + 2) (of_std_call_statement m place C)) (λ n p i. refl))
      (next (reads_arguments limit total es f (d + 2) (of_std_call_statement m place C) (mark sign.Semicolon ∷ x) (omega (arith, l)))
      (ends_as (have_statement (evaluate (std_call m es place)) C) (ap (λ q. have_statement (evaluate (std_call m q place)) C) (from_listed es)) (reads_end (have_statement (evaluate (std_call m (_) place)) C) x))))))

  -- a local int
  ends_int : (e : Expression) → IsExpression e → (m : Name) (d : ℕ) (C : InStatement) (x : List Piece) → Leads limit total (mark sign.Semicolon ∷ x) (behind e d [] (in_local_int m C)) x (have_statement (local_int m (Some e)) C)
  unfolding feed
  ends_int e g m d C x =
      kind_leads (kind.Mark sign.Semicolon) _ _ (λ n p i. subst (λ (q : Step). Passes limit q (have_statement (local_int m (Some e)) C)) (sym (ends e g n (token (kind.Mark sign.Semicolon) p) refl refl refl d (in_local_int m C))) refl)

  begins_int : (d : ℕ) (C : InStatement) (x : List Piece) → takes_locals C ≡ true → d ≤ limit → Leads limit total (word keyword.Int ∷ x) (want_statement d C) x (after_int d C)
  unfolding feed
  begins_int d C x a l = kind_leads (kind.Word keyword.Int) (want_statement d C) (after_int d C) (λ n place i. rw a (l, refl))

  begins_const : (d : ℕ) (C : InStatement) (x : List Piece) → takes_locals C ≡ true → d ≤ limit → Leads limit total (word keyword.Const ∷ x) (want_statement d C) x (after_const (of_local C))
  unfolding feed
  begins_const d C x a l = kind_leads (kind.Word keyword.Const) (want_statement d C) (after_const (of_local C)) (λ n place i. rw a (l, refl))

  begins_class : (m : Name) (d : ℕ) (C : InStatement) (x : List Piece) → takes_locals C ≡ true → d ≤ limit → Leads limit total (named m ∷ x) (want_statement d C) x (after_first_name m d C)
  unfolding feed
  begins_class m d C x a l = name_leads m (want_statement d C) (λ o. after_first_name o d C) (λ n i. rw a (l, refl))

  pub reads_int : (m : Name) (d : ℕ) (C : InStatement) (x : List Piece) → IsAllowed C (local_int m None) → d ≤ limit → Leads limit total (spell_statement (local_int m None) x) (want_statement d C) x (have_statement (local_int m None) C)
  unfolding feed
  reads_int m d C x a l =
      next (begins_int d C (named m ∷ mark sign.Semicolon ∷ x) (local_taken C (local_int m None) refl a) l)
      (next (name_leads m (after_int d C) (λ o. after_int_name o d C) (λ n i. refl)) (kind_leads (kind.Mark sign.Semicolon) (after_int_name m d C) (have_statement (local_int m None) C) (λ n place i. refl)))

  pub reads_int_value : (m : Name) (e : Expression) → IsExpression e → (d : ℕ) (C : InStatement) (x : List Piece) → IsAllowed C (local_int m (Some e)) → d + 1 + below_expression e ≤ limit → Leads limit total (spell_statement (local_int m (Some e)) x) (want_statement d C) x (have_statement (local_int m (Some e)) C)
  unfolding feed
  reads_int_value m e g d C x a l =
      next (begins_int d C (named m ∷ mark sign.Assign ∷ spell_expression e (mark sign.Semicolon ∷ x)) (local_taken C (local_int m (Some e)) refl a) (omega (arith, l)))
      (next (name_leads m (after_int d C) (λ o. after_int_name o d C) (λ n i. refl))
      (next (kind_leads (kind.Mark sign.Assign) (after_int_name m d C) (want_operand (d + 1) [] (in_local_int m C)) (λ n place i. (omega (arith, l), refl)))
      (next (reads limit total e g (d + 1) [] (in_local_int m C) (mark sign.Semicolon ∷ x) l tt) (ends_int e g m (d + 1) C x))))

  -- a local reference
  reads_reference_type : (ty : Ty) → IsReference ty → (d : ℕ) (C : InStatement) (x : List Piece) → takes_locals C ≡ true → d ≤ limit → Leads limit total (spell_type ty x) (want_statement d C) x (have_type ty (of_local C))
  unfolding feed
  reads_reference_type Int g d C x a l = absurd g
  reads_reference_type Void g d C x a l = absurd g
  reads_reference_type (Object m) g d C x a l = absurd g
  reads_reference_type (IntRef true) g d C x a l = next (begins_const d C (word keyword.Int ∷ mark sign.Amp ∷ x) a l) (reads_const_int limit total (of_local C) x)
  reads_reference_type (IntRef false) g d C x a l =
      next (begins_int d C (mark sign.Amp ∷ x) a l) (kind_leads (kind.Mark sign.Amp) (after_int d C) (have_type (IntRef false) (of_local C)) (λ n place i. refl))
  reads_reference_type (ObjectRef true m) g d C x a l = next (begins_const d C (spell_class m (mark sign.Amp ∷ x)) a l) (reads_const_class limit total m g (of_local C) x)
  reads_reference_type (ObjectRef false m) g d C x a l =
      begins_as (spell_class m (mark sign.Amp ∷ x)) (named m ∷ mark sign.Amp ∷ x) (plain_spelled m (mark sign.Amp ∷ x) g)
      (next (begins_class m d C (mark sign.Amp ∷ x) a l) (kind_leads (kind.Mark sign.Amp) (after_first_name m d C) (have_type (ObjectRef false m) (of_local C)) (λ n place i. rw (a, g) refl)))

  reads_referred : (p : Param) (names : List Name) → NotEmpty names → (C : InStatement) (x : List Piece) → Leads limit total (spell_path names (mark sign.Semicolon ∷ x)) (want_name (of_referred p C)) x (have_statement (local_ref p names) C)
  unfolding feed
  reads_referred p [] g C x = absurd g
  reads_referred p (m ∷ names) g C x =
      next (name_leads m (want_name (of_referred p C)) (λ o. after_path (o ∷ []) (of_reference p C)) (λ n i. refl))
      (next (reads_dots limit total names (m ∷ []) (of_reference p C) (mark sign.Semicolon ∷ x)) (kind_leads (kind.Mark sign.Semicolon) (after_path (m ∷ names) (of_reference p C)) (have_statement (local_ref p (m ∷ names)) C) (λ n place i. refl)))

  pub reads_reference : (ty : Ty) (name : Option Name) (names : List Name) → IsReference ty → There name → NotEmpty names → (d : ℕ) (C : InStatement) (x : List Piece) → takes_locals C ≡ true → d ≤ limit → Leads limit total (spell_statement (local_ref (record { ty = ty; name = name }) names) x) (want_statement d C) x (have_statement (local_ref (record { ty = ty; name = name }) names) C)
  unfolding feed
  reads_reference ty None names g h f d C x a l = absurd h
  reads_reference ty (Some m) names g h f d C x a l =
      next (reads_reference_type ty g d C (named m ∷ mark sign.Assign ∷ spell_path names (mark sign.Semicolon ∷ x)) a l)
      (next (name_leads m (have_type ty (of_local C)) (λ o. expect (kind.Mark sign.Assign) (want_name (of_referred (record { ty = ty; name = Some o }) C))) (λ n i. refl))
      (next (kind_leads (kind.Mark sign.Assign) (expect (kind.Mark sign.Assign) (want_name (of_referred (record { ty = ty; name = Some m }) C))) (want_name (of_referred (record { ty = ty; name = Some m }) C)) (λ n place i. refl))
      (reads_referred (record { ty = ty; name = Some m }) names f C x)))

  -- a local object
  begins_object : (c m : Name) (d : ℕ) (C : InStatement) (x : List Piece) → takes_locals C ≡ true → d ≤ limit → Leads limit total (named c ∷ named m ∷ x) (want_statement d C) x (after_object_name c m d C)
  unfolding feed
  begins_object c m d C x a l = next (begins_class c d C (named m ∷ x) a l) (name_leads m (after_first_name c d C) (λ o. after_object_name c o d C) (λ n i. rw (a, feed_first_name) refl))

  pub reads_object : (c m : Name) (es : Expressions) → AreExpressions es → (d : ℕ) (C : InStatement) (x : List Piece) → takes_locals C ≡ true → d ≤ limit → d + below_expressions es ≤ limit → Leads limit total (spell_statement (local_object c m es) x) (want_statement d C) x (have_statement (local_object c m es) C)
  unfolding feed
  reads_object c m no_expressions g d C x a l b =
      next (begins_object c m d C (mark sign.Semicolon ∷ x) a l) (kind_leads (kind.Mark sign.Semicolon) (after_object_name c m d C) (have_statement (local_object c m no_expressions) C) (λ n place i. refl))
  reads_object c m (expression_then e es) g d C x a l b =
      next (begins_object c m d C (mark sign.OpenParen ∷ spell_expression e (spell_more es (mark sign.CloseParen ∷ mark sign.Semicolon ∷ x))) a l)
      (next (kind_leads (kind.Mark sign.OpenParen) (after_object_name c m d C) (want_operand (d + 1) [] (in_argument (d + 1) [] (of_object c m C))) (λ n place i. (omega (arith, b), refl)))
      (next (reads limit total e g.0 (d + 1) [] (in_argument (d + 1) [] (of_object c m C)) (spell_more es (mark sign.CloseParen ∷ mark sign.Semicolon ∷ x)) (omega (arith, b)) tt)
      (next (reads_more limit total es g.1 e g.0 [] (d + 1) (of_object c m C) (mark sign.Semicolon ∷ x) (omega (arith, b)))
      (ends_as (have_statement (local_object c m (expression_then e es)) C) (ap (λ q. have_statement (local_object c m (expression_then e q)) C) (from_listed es)) (reads_end (have_statement (local_object c m (expression_then e (_))) C) x)))))
