-- What holds of an expression's state holds with a token more.
use Rattle.std.specs.Prelude.{ℕ, ◌+◌, ◌≡◌, Bool, true, false, List, [], ◌∷◌, ◌++◌, Option, Some, None, nat_le, refl, if◌then◌else◌}
use Rattle.std.proofs.Common.{ap, sym, ◌∙◌, arith}
use Rattle.std.proofs.lemmas.Bool.Decides.{nat_tests}
use Rattle.cxx_ast.specs.declared.expression.UnaryOp.{UnaryOp}
use Rattle.cxx_ast.specs.declared.expression.UnaryOp.TheVariants.{Minus, Not}
use Rattle.cxx_ast.specs.declared.expression.BinaryOp.{BinaryOp}
use Rattle.cxx_ast.specs.declared.expression.BinaryOp.TheVariants.{Add, Subtract, Multiply, Divide, Remainder, Less, Greater, LessEqual, GreaterEqual, Equal, NotEqual, And, Or}
use Rattle.cxx_ast.specs.declared.keyword.Keyword.TheVariants as keyword
use Rattle.cxx_ast.specs.declared.mark.Mark.{Mark}
use Rattle.cxx_ast.specs.declared.mark.Mark.TheVariants as sign
use Rattle.cxx_ast.specs.declared.name.Name.{Name}
use Rattle.cxx_ast.specs.declared.token.Token.{Token}
use Rattle.cxx_ast.specs.declared.token.TokenKind.{TokenKind}
use Rattle.cxx_ast.specs.declared.token.TokenKind.TheVariants as kind
use Rattle.cxx_ast.specs.Grammatical.{NotEmpty}
use Rattle.cxx_ast.specs.Operator.{unary_mark, binary_mark, binary_level}
use Rattle.cxx_ast.specs.Piece.{Piece, named, placed, mark, word_at, mark_at}
use Rattle.cxx_ast.specs.Plain.{Expression, Initialiser, number, path, unary, binary}
use Rattle.cxx_ast.specs.Spelling.{spell_expression, spell_arguments, spell_more, spell_path, spell_dots}
use Rattle.cxx_ast.specs.Written.{spell_params, spell_specification, spell_initialisers, spell_more_initialisers, spell_initialiser}
use Rattle.cxx_parser.specs.Contexts.{InJump, of_return, of_throw, Pending, before_operand, behind_operand, InExpression, in_paren, in_argument, in_if_test, in_while_test, in_jump, in_assign, in_local_int, InCall, of_call, of_std_call, of_call_statement, of_std_call_statement, of_object, of_initialiser, InPath, of_operand, of_statement, of_reference}
use Rattle.cxx_parser.specs.Expressions.{begin_rest, have_jump, have_arguments, with_initialiser, feed_argument, feed_expression, feed_operator, feed_operand, feed_path, feed_names, begin_bracket, begin_operand, feed_open}
use Rattle.cxx_parser.specs.Operators.{Operand, gathered}
use Rattle.cxx_parser.specs.Signs.{operator_of_mark, operator_of, prefix_of_mark, prefix_of}
use Rattle.cxx_parser.specs.States.{want_operand, have_operand, have_expression, after_path, have_path, after_open, have_argument, within}
use Rattle.cxx_parser.specs.Stored.{expressions_from}
use Rattle.cxx_parser.proofs.Before.{separator, spell_given, spell_signature, spell_heading, pending, before_expression, before_call, site_of, call_heading}
use Rattle.cxx_parser.proofs.Held.{Fits, after, Within, Holds, IsReady}
use Rattle.cxx_parser.proofs.Steps.{Where, step, restate, on_mark_holds, if_mark, if_word, placed_is, on_name, on_literal}

-- the last of some expressions, and of some initialisers
more_last : (es : List Expression) (e : Expression) (x : List Piece) → spell_more (expressions_from (es ++ (e ∷ []))) x ≡ mark sign.Comma ∷ spell_given es (spell_expression e x)
more_last [] e x = refl
more_last (d ∷ es) e x = ap (λ y. mark sign.Comma ∷ spell_expression d y) (more_last es e x)

pub arguments_last : (es : List Expression) (e : Expression) (x : List Piece) → spell_given es (spell_expression e x) ≡ spell_arguments (expressions_from (es ++ (e ∷ []))) x
arguments_last [] e x = refl
arguments_last (d ∷ es) e x = sym (ap (spell_expression d) (more_last es e x))

more_comma : (es : List Expression) (x : List Piece) → spell_more (expressions_from es) (mark sign.Comma ∷ x) ≡ mark sign.Comma ∷ spell_given es x
more_comma [] x = refl
more_comma (d ∷ es) x = ap (λ y. mark sign.Comma ∷ spell_expression d y) (more_comma es x)

pub given_comma : (es : List Expression) → NotEmpty es → (x : List Piece) → spell_arguments (expressions_from es) (mark sign.Comma ∷ x) ≡ spell_given es x
given_comma [] h x = absurd h
given_comma (e ∷ es) h x = ap (spell_expression e) (more_comma es x)

pub not_empty : {A : Type 0} (xs : List A) (x : A) → NotEmpty (xs ++ (x ∷ []))
not_empty [] x = tt
not_empty (y ∷ ys) x = tt

initialisers_more : (is : List Initialiser) (i : Initialiser) (x : List Piece) → spell_more_initialisers (is ++ (i ∷ [])) x ≡ spell_more_initialisers is (mark sign.Comma ∷ spell_initialiser i x)
initialisers_more [] i x = refl
initialisers_more (j ∷ is) i x = ap (λ y. mark sign.Comma ∷ spell_initialiser j y) (initialisers_more is i x)

pub initialisers_last : (is : List Initialiser) (i : Initialiser) (x : List Piece) → spell_initialisers is (separator is ∷ spell_initialiser i x) ≡ spell_initialisers (is ++ (i ∷ [])) x
initialisers_last [] i x = refl
initialisers_last (j ∷ is) i x = sym (ap (λ y. mark sign.Colon ∷ spell_initialiser j y) (initialisers_more is i x))

-- the last name of a path
dots_last : (names : List Name) (n : Name) (x : List Piece) → spell_dots (names ++ (n ∷ [])) x ≡ spell_dots names (mark sign.Dot ∷ named n ∷ x)
dots_last [] n x = refl
dots_last (m ∷ names) n x = ap (λ y. mark sign.Dot ∷ named m ∷ y) (dots_last names n x)

pub path_last : (names : List Name) (n : Name) → NotEmpty names → (x : List Piece) → spell_path names (mark sign.Dot ∷ named n ∷ x) ≡ spell_path (names ++ (n ∷ [])) x
path_last [] n h x = absurd h
path_last (m ∷ names) n h x = sym (ap (λ y. named m ∷ y) (dots_last names n x))

-- what stands before an operand is the same however it is gathered
pub gathered_said : (level depth : ℕ) (e : Expression) (ps : List Pending) (x : List Piece) → pending ps (spell_expression e x) ≡ pending (gathered level depth e ps).pending (spell_expression (gathered level depth e ps).value x)
gathered_said level depth e [] x = refl
gathered_said level depth e (before_operand d op place ∷ ps) x = gathered_said level d (unary op e place) ps x
gathered_said level depth e (behind_operand d op a ∷ ps) x = go (nat_le level (binary_level op)) (gathered_said level d (binary op a e) ps x)
  where
    picked : Bool → Operand
    picked b = if b then gathered level d (binary op a e) ps else record { depth = depth; value = e; pending = behind_operand d op a ∷ ps }

    go : (b : Bool) → pending ps (spell_expression (binary op a e) x) ≡ pending (gathered level d (binary op a e) ps).pending (spell_expression (gathered level d (binary op a e) ps).value x) → pending ps (spell_expression a (mark (binary_mark op) ∷ spell_expression e x)) ≡ pending (picked b).pending (spell_expression (picked b).value x)
    go true ih = ih
    go false ih = refl

gathered_whole : (depth : ℕ) (e : Expression) (ps : List Pending) → (gathered 0 depth e ps).pending ≡ []
gathered_whole depth e [] = refl
gathered_whole depth e (before_operand d op place ∷ ps) = gathered_whole d (unary op e place) ps
gathered_whole depth e (behind_operand d op a ∷ ps) = let le : nat_le 0 (binary_level op) ≡ true = grind (arith, nat_tests) in rw le (gathered_whole d (binary op a e) ps)

-- the whole expression in front of a token that is no operator
pub whole_said : (depth : ℕ) (e : Expression) (ps : List Pending) (x : List Piece) → pending ps (spell_expression e x) ≡ spell_expression (gathered 0 depth e ps).value x
whole_said depth e ps x = gathered_said 0 depth e ps x ∙ ap (λ q. pending q (spell_expression (gathered 0 depth e ps).value x)) (gathered_whole depth e ps)

op_same : (a b : BinaryOp) → Some a ≡ Some b → a ≡ b
op_same a b e = cc

prefix_same : (a b : UnaryOp) → Some a ≡ Some b → a ≡ b
prefix_same a b e = cc

-- an operator's mark
operator_mark : (m : Mark) (op : BinaryOp) → operator_of_mark m ≡ Some op → m ≡ binary_mark op
operator_mark sign.Plus op e = ap binary_mark (op_same Add op e)
operator_mark sign.Minus op e = ap binary_mark (op_same Subtract op e)
operator_mark sign.Star op e = ap binary_mark (op_same Multiply op e)
operator_mark sign.Slash op e = ap binary_mark (op_same Divide op e)
operator_mark sign.Percent op e = ap binary_mark (op_same Remainder op e)
operator_mark sign.Less op e = ap binary_mark (op_same Less op e)
operator_mark sign.Greater op e = ap binary_mark (op_same Greater op e)
operator_mark sign.LessEqual op e = ap binary_mark (op_same LessEqual op e)
operator_mark sign.GreaterEqual op e = ap binary_mark (op_same GreaterEqual op e)
operator_mark sign.Equal op e = ap binary_mark (op_same Equal op e)
operator_mark sign.NotEqual op e = ap binary_mark (op_same NotEqual op e)
operator_mark sign.AmpAmp op e = ap binary_mark (op_same And op e)
operator_mark sign.BarBar op e = ap binary_mark (op_same Or op e)
operator_mark _ op e = cc

pub operator_is : (k : TokenKind) (op : BinaryOp) → operator_of k ≡ Some op → k ≡ kind.Mark (binary_mark op)
operator_is (kind.Mark m) op e = ap kind.Mark (operator_mark m op e)
operator_is (kind.Name text) op e = cc
operator_is (kind.Number v) op e = cc
operator_is (kind.Word w) op e = cc

prefix_mark : (m : Mark) (op : UnaryOp) → prefix_of_mark m ≡ Some op → m ≡ unary_mark op
prefix_mark sign.Minus op e = ap unary_mark (prefix_same Minus op e)
prefix_mark sign.Exclamation op e = ap unary_mark (prefix_same Not op e)
prefix_mark _ op e = cc

pub prefix_is : (k : TokenKind) (op : UnaryOp) → prefix_of k ≡ Some op → k ≡ kind.Mark (unary_mark op)
prefix_is (kind.Mark m) op e = ap kind.Mark (prefix_mark m op e)
prefix_is (kind.Name text) op e = cc
prefix_is (kind.Number v) op e = cc
prefix_is (kind.Word w) op e = cc

-- a `return` or a `throw`
pub jump_holds : (n : ℕ) (F : Fits) (t : Token) (e : Expression) (jump : InJump) → t.kind ≡ kind.Mark sign.Semicolon → Holds n F (have_expression e (in_jump jump)) → Holds (n + 1) (after t F) (have_jump (Some e) jump)
jump_holds n F t e (of_return place C) is w = step t (mark sign.Semicolon) _ is tt w
jump_holds n F t e (of_throw place C) is w = step t (mark sign.Semicolon) _ is tt w

-- arguments that are some are ready for each call
ready_more : (es : List Expression) (K : InCall) → NotEmpty es → IsReady es K
ready_more es (of_call names c ps E) h = tt
ready_more es (of_std_call m place c ps E) h = tt
ready_more es (of_call_statement names C) h = tt
ready_more es (of_std_call_statement m place C) h = tt
ready_more es (of_object c m C) h = h
ready_more es (of_initialiser m s) h = tt

-- `)` behind arguments
pub arguments_hold : (n : ℕ) (F : Fits) (t : Token) (es : List Expression) (K : InCall) → t.kind ≡ kind.Mark sign.CloseParen → IsReady es K → Within n F (site_of (call_heading K)) (λ x. before_call K (spell_arguments (expressions_from es) x)) (Unit {0}) → Holds (n + 1) (after t F) (have_arguments es K)
arguments_hold n F t es (of_call names c ps E) is r w = step t (mark sign.CloseParen) _ is tt w
arguments_hold n F t es (of_std_call m place c ps E) is r w = step t (mark sign.CloseParen) _ is tt w
arguments_hold n F t es (of_call_statement names C) is r w = λ u i. step u (mark sign.Semicolon) _ i tt (step t (mark sign.CloseParen) (Unit {0}) is tt w)
arguments_hold n F t es (of_std_call_statement m place C) is r w = λ u i. step u (mark sign.Semicolon) _ i tt (step t (mark sign.CloseParen) (Unit {0}) is tt w)
arguments_hold n F t [] (of_object c m C) is r w = absurd r
arguments_hold n F t (e ∷ es) (of_object c m C) is r w = λ u i. step u (mark sign.Semicolon) _ i tt (step t (mark sign.CloseParen) (Unit {0}) is tt w)
arguments_hold n F t es (of_initialiser m s) is r w =
    let i : Initialiser = record { name = m; arguments = expressions_from es } in
    restate (spell_signature (with_initialiser s i)) _ (λ x. ap (λ y. spell_heading s.heading (spell_params s.parameters (mark sign.CloseParen ∷ spell_specification s.in_full s.specification y))) (initialisers_last s.initialisers i x)) (not_empty s.initialisers i)
    (step t (mark sign.CloseParen) (Unit {0}) is tt w)

-- a token behind arguments
pub feed_argument-holds : (n : ℕ) (F : Fits) (t : Token) (depth : ℕ) (es : List Expression) (K : InCall) → Holds n F (have_argument depth es K) → Where (Holds (n + 1) (after t F)) (feed_argument t depth es K)
feed_argument-holds n F t depth es K w =
    if_mark (Holds (n + 1) (after t F)) sign.Comma t _ _
    (λ is. restate (λ x. before_call K (spell_given es x)) _ (λ x. ap (before_call K) (given_comma es w.fine x)) tt (step t (mark sign.Comma) (Unit {0}) is tt w))
    (on_mark_holds (Holds (n + 1) (after t F)) sign.CloseParen t _ (λ is. arguments_hold n F t es K is (ready_more es K w.fine) (restate _ (Unit {0}) (λ x. refl) tt w)))

-- a token behind an expression
pub feed_expression-holds : (n : ℕ) (F : Fits) (t : Token) (e : Expression) (E : InExpression) → Holds n F (have_expression e E) → Where (Holds (n + 1) (after t F)) (feed_expression t e E)
feed_expression-holds n F t e (in_paren place depth ps E) w = on_mark_holds (Holds (n + 1) (after t F)) sign.CloseParen t _ (λ is. step t (mark sign.CloseParen) _ is tt w)
feed_expression-holds n F t e (in_argument depth es K) w =
    feed_argument-holds n F t depth (es ++ (e ∷ [])) K (restate (λ x. before_call K (spell_arguments (expressions_from (es ++ (e ∷ []))) x)) _ (λ x. ap (before_call K) (arguments_last es e x)) (not_empty es e) w)
feed_expression-holds n F t e (in_if_test depth C) w = on_mark_holds (Holds (n + 1) (after t F)) sign.CloseParen t _ (λ is. step t (mark sign.CloseParen) _ is tt w)
feed_expression-holds n F t e (in_while_test depth C) w = on_mark_holds (Holds (n + 1) (after t F)) sign.CloseParen t _ (λ is. step t (mark sign.CloseParen) _ is tt w)
feed_expression-holds n F t e (in_jump jump) w = on_mark_holds (Holds (n + 1) (after t F)) sign.Semicolon t _ (λ is. jump_holds n F t e jump is w)
feed_expression-holds n F t e (in_assign names C) w = on_mark_holds (Holds (n + 1) (after t F)) sign.Semicolon t _ (λ is. step t (mark sign.Semicolon) _ is tt w)
feed_expression-holds n F t e (in_local_int m C) w = on_mark_holds (Holds (n + 1) (after t F)) sign.Semicolon t _ (λ is. step t (mark sign.Semicolon) _ is tt w)

-- a token behind an operand
feed_operator-holds : (n : ℕ) (F : Fits) (t : Token) (o : Option BinaryOp) (depth : ℕ) (e : Expression) (ps : List Pending) (E : InExpression) → operator_of t.kind ≡ o → Holds n F (have_operand depth e ps E) → Where (Holds (n + 1) (after t F)) (feed_operator o t depth e ps E)
feed_operator-holds n F t None depth e ps E i w =
    feed_expression-holds n F t (gathered 0 depth e ps).value E (restate (λ x. before_expression E (spell_expression (gathered 0 depth e ps).value x)) _ (λ x. ap (before_expression E) (whole_said depth e ps x)) tt w)
feed_operator-holds n F t (Some op) depth e ps E i w =
    let o = gathered (binary_level op) depth e ps in
    (step t (mark (binary_mark op)) _ (operator_is t.kind op i) tt (restate (λ x. before_expression E (pending o.pending (spell_expression o.value x))) (Unit {0}) (λ x. ap (before_expression E) (gathered_said (binary_level op) depth e ps x)) tt w))

pub feed_operand-holds : (n : ℕ) (F : Fits) (t : Token) (depth : ℕ) (e : Expression) (ps : List Pending) (E : InExpression) → Holds n F (have_operand depth e ps E) → Where (Holds (n + 1) (after t F)) (feed_operand t depth e ps E)
feed_operand-holds n F t depth e ps E w = feed_operator-holds n F t (operator_of t.kind) depth e ps E refl w

-- a token behind a path
pub feed_path-holds : (n : ℕ) (F : Fits) (t : Token) (names : List Name) (P : InPath) → Holds n F (have_path names P) → Where (Holds (n + 1) (after t F)) (feed_path t names P)
feed_path-holds n F t names (of_operand depth ps E) w =
    if_mark (Holds (n + 1) (after t F)) sign.OpenParen t _ _ (λ is. step t (mark sign.OpenParen) _ is tt w) (feed_operand-holds n F t depth (path names) ps E (restate _ _ (λ x. refl) tt w))
feed_path-holds n F t names (of_statement depth C) w =
    if_mark (Holds (n + 1) (after t F)) sign.OpenParen t _ _ (λ is. step t (mark sign.OpenParen) _ is tt w)
    (on_mark_holds (Holds (n + 1) (after t F)) sign.Assign t _ (λ is. step t (mark sign.Assign) _ is tt w))
feed_path-holds n F t names (of_reference p C) w = on_mark_holds (Holds (n + 1) (after t F)) sign.Semicolon t _ (λ is. step t (mark sign.Semicolon) _ is tt w)

pub feed_names-holds : (n : ℕ) (F : Fits) (t : Token) (names : List Name) (P : InPath) → Holds n F (after_path names P) → Where (Holds (n + 1) (after t F)) (feed_names t names P)
feed_names-holds n F t names P w = if_mark (Holds (n + 1) (after t F)) sign.Dot t _ _ (λ is. step t (mark sign.Dot) _ is w.fine w) (feed_path-holds n F t names P w)

-- the first token of an operand
begin_bracket-holds : (n : ℕ) (F : Fits) (t : Token) (depth : ℕ) (ps : List Pending) (E : InExpression) → Holds n F (want_operand depth ps E) → Where (Holds (n + 1) (after t F)) (begin_bracket t depth ps E)
begin_bracket-holds n F t depth ps E w =
    if_mark (Holds (n + 1) (after t F)) sign.OpenParen t _ _ (λ is. (step t (mark_at sign.OpenParen t.place) _ (placed_is t (kind.Mark sign.OpenParen) is) tt w))
    (if_word (Holds (n + 1) (after t F)) keyword.Std t _ _ (λ is. (λ u i. step u (mark sign.ColonColon) _ i tt (step t (word_at keyword.Std t.place) (Unit {0}) (placed_is t (kind.Word keyword.Std) is) tt w))) tt)

begin_rest-holds : (n : ℕ) (F : Fits) (t : Token) (depth : ℕ) (ps : List Pending) (E : InExpression) → Holds n F (want_operand depth ps E) → Where (Holds (n + 1) (after t F)) (begin_rest t depth ps E)
begin_rest-holds n F t depth ps E w =
    on_literal (Holds (n + 1) (after t F)) t (λ v. within depth (have_operand depth (number v t.place) ps E)) _
    (λ v is u. (step t (placed (kind.Number v) t.place) _ (placed_is t (kind.Number v) is) tt w))
    (on_name (Holds (n + 1) (after t F)) t (λ m. within depth (after_path (m ∷ []) (of_operand depth ps E))) _
    (λ m is. (step t (named m) _ is tt w))
    (begin_bracket-holds n F t depth ps E w))

pub begin_operand-holds : (n : ℕ) (F : Fits) (t : Token) (depth : ℕ) (ps : List Pending) (E : InExpression) → Holds n F (want_operand depth ps E) → Where (Holds (n + 1) (after t F)) (begin_operand t depth ps E)
begin_operand-holds n F t depth ps E w = go (prefix_of t.kind) refl (begin_rest-holds n F t depth ps E w)
  where
    go : (o : Option UnaryOp) → prefix_of t.kind ≡ o → Where (Holds (n + 1) (after t F)) (begin_rest t depth ps E) → Where (Holds (n + 1) (after t F)) (elim o [ Some op ↦ within (depth + 1) (want_operand (depth + 1) (before_operand depth op t.place ∷ ps) E) | None ↦ begin_rest t depth ps E ])
    go (Some op) i r = (step t (mark_at (unary_mark op) t.place) _ (placed_is t (kind.Mark (unary_mark op)) (prefix_is t.kind op i)) tt w)
    go None i r = r

-- a token behind the `(` of arguments
pub feed_open-holds : (n : ℕ) (F : Fits) (t : Token) (depth : ℕ) (K : InCall) → Holds n F (after_open depth K) → Where (Holds (n + 1) (after t F)) (feed_open t depth K)
feed_open-holds n F t depth K w =
    if_mark (Holds (n + 1) (after t F)) sign.CloseParen t _ _ (λ is. arguments_hold n F t [] K is w.fine (restate _ (Unit {0}) (λ x. refl) tt w))
    (begin_operand-holds n F t depth [] (in_argument depth [] K) (restate _ _ (λ x. refl) tt w))
