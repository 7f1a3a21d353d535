-- Expressions that are spelled are read.
use Rattle.std.specs.Prelude.{ℕ, ◌+◌, ◌≡◌, ◌≤◌, max, pos, negsuc, false, List, [], ◌∷◌, ◌++◌, refl}
use Rattle.std.proofs.Common.{ap, sym, subst, arith, append_assoc}
use Rattle.std.proofs.lemmas.List.{append-nil}
use Rattle.cxx_ast.specs.declared.expression.UnaryOp.{UnaryOp}
use Rattle.cxx_ast.specs.declared.expression.UnaryOp.TheVariants.{Minus, Not}
use Rattle.cxx_ast.specs.declared.keyword.Keyword.TheVariants as keyword
use Rattle.cxx_ast.specs.declared.mark.Mark.TheVariants as sign
use Rattle.cxx_ast.specs.declared.name.Name.{Name}
use Rattle.cxx_ast.specs.declared.token.Token.{Token}
use Rattle.cxx_ast.specs.declared.token.TokenKind.{TokenKind}
use Rattle.cxx_ast.specs.declared.token.TokenKind.TheVariants as kind
use Rattle.cxx_ast.specs.Depth.{below_expression, below_expressions}
use Rattle.cxx_ast.specs.Grammatical.{NotEmpty, IsExpression, AreExpressions}
use Rattle.cxx_ast.specs.Operator.{unary_mark, binary_mark, level}
use Rattle.cxx_ast.specs.Piece.{Piece, placed, named, mark, mark_at, word_at}
use Rattle.cxx_ast.specs.Plain.{Expression, number, path, paren, unary, binary, call, std_call, Expressions, no_expressions, expression_then}
use Rattle.cxx_ast.specs.Spelling.{spell_dots, spell_path, spell_expression, spell_arguments, spell_more}
use Rattle.cxx_parser.specs.Contexts.{Pending, before_operand, behind_operand, InExpression, in_paren, in_argument, InCall, of_call, of_std_call, InPath, of_operand, of_path, of_std_operand}
use Rattle.cxx_parser.specs.Expressions.{have_arguments}
use Rattle.cxx_parser.specs.Reading.{feed}
use Rattle.cxx_parser.specs.Signs.{is_mark}
use Rattle.cxx_parser.specs.States.{Step, expect, want_name, want_operand, have_operand, after_path, after_open}
use Rattle.cxx_parser.specs.Stored.{expressions_from}
use Rattle.cxx_parser.proofs.Behind.{behind, ends, operator_comes, stacked_more}
use Rattle.cxx_parser.proofs.Past.{Leads, stays, next, ends_as, Passes, token, kind_leads, placed_leads, name_leads, Opening, opens, alike}
use Rattle.cxx_parser.proofs.Runs.{passed}
use Rattle.cxx_parser.proofs.Sound.{Stacked}

-- the expressions in a list
abbrev pub listed : Expressions → List Expression
listed no_expressions = []
listed (expression_then e es) = e ∷ listed es

pub from_listed : (es : Expressions) → expressions_from (listed es) ≡ es
from_listed no_expressions = refl
from_listed (expression_then e es) = ap (expression_then e) (from_listed es)

-- a token that begins an expression closes none, and ends no statement
abbrev pub Begins : TokenKind → Type 0
Begins k = (is_mark sign.CloseParen k ≡ false) × (is_mark sign.Semicolon k ≡ false)

unary_begins : (op : UnaryOp) → Begins (kind.Mark (unary_mark op))
unary_begins Minus = (refl, refl)
unary_begins Not = (refl, refl)

path_opening : (names : List Name) (x : List Piece) → NotEmpty names → Opening Begins (spell_path names x)
path_opening [] x h = absurd h
path_opening (m ∷ names) x h = opens Begins (named m) (spell_dots names x) (refl, refl)

-- how an expression begins
pub opening : (e : Expression) (x : List Piece) → IsExpression e → Opening Begins (spell_expression e x)
opening (number v place) x g = opens Begins (placed (kind.Number v) place) x (refl, refl)
opening (path names) x g = path_opening names x g
opening (paren e place) x g = opens Begins (mark_at sign.OpenParen place) (spell_expression e (mark sign.CloseParen ∷ x)) (refl, refl)
opening (unary op e place) x g = opens Begins (mark_at (unary_mark op) place) (spell_expression e x) (unary_begins op)
opening (binary op a b) x g = opening a (mark (binary_mark op) ∷ spell_expression b x) g.0
opening (call names es) x g = path_opening names (mark sign.OpenParen ∷ spell_arguments es (mark sign.CloseParen ∷ x)) g.0
opening (std_call m es place) x g =
    opens Begins (word_at keyword.Std place) (mark sign.ColonColon ∷ named m ∷ mark sign.OpenParen ∷ spell_arguments es (mark sign.CloseParen ∷ x)) (refl, refl)

opens_alike : (limit n : ℕ) (t : Token) (d : ℕ) (K : InCall) → Begins t.kind → passed limit (feed n t (after_open d K)) ≡ passed limit (feed n t (want_operand d [] (in_argument d [] K)))
unfolding feed
opens_alike limit n t d K h = rw h.0 refl

module _ (limit total : ℕ) where
  -- further names of a path
  pub reads_dots : (names got : List Name) (P : InPath) (x : List Piece) → Leads limit total (spell_dots names x) (after_path got P) x (after_path (got ++ names) P)
  unfolding feed
  reads_dots [] got P x = ends_as (after_path (got ++ []) P) (ap (λ q. after_path q P) (sym (append-nil got))) stays
  reads_dots (m ∷ names) got P x =
      next (kind_leads (kind.Mark sign.Dot) (after_path got P) (want_name (of_path got P)) (λ n place i. refl))
      (next (name_leads m (want_name (of_path got P)) (λ o. after_path (got ++ (o ∷ [])) P) (λ n i. refl))
      (ends_as (after_path (got ++ (m ∷ names)) P) (ap (λ q. after_path q P) (append_assoc got (m ∷ []) names)) (reads_dots names (got ++ (m ∷ [])) P x)))

  -- a path as an operand
  reads_path : (names : List Name) → NotEmpty names → (d : ℕ) (ps : List Pending) (E : InExpression) (x : List Piece) → d ≤ limit → Leads limit total (spell_path names x) (want_operand d ps E) x (after_path names (of_operand d ps E))
  unfolding feed
  reads_path [] g d ps E x l = absurd g
  reads_path (m ∷ names) g d ps E x l =
      next (name_leads m (want_operand d ps E) (λ o. after_path (o ∷ []) (of_operand d ps E)) (λ n i. (l, refl))) (reads_dots names (m ∷ []) (of_operand d ps E) x)

  -- an operator before its operand
  reads_prefix : (op : UnaryOp) (place d : ℕ) (ps : List Pending) (E : InExpression) (n : ℕ) → d + 1 ≤ limit → Passes limit (feed n (token (kind.Mark (unary_mark op)) place) (want_operand d ps E)) (want_operand (d + 1) (before_operand d op place ∷ ps) E)
  unfolding feed
  reads_prefix Minus place d ps E n l = (l, refl)
  reads_prefix Not place d ps E n l = (l, refl)

  -- `)` behind an expression
  close_paren : (e : Expression) → IsExpression e → (place d : ℕ) (ps : List Pending) (E : InExpression) (x : List Piece) → Leads limit total (mark sign.CloseParen ∷ x) (behind e (d + 1) [] (in_paren place d ps E)) x (have_operand d (paren e place) ps E)
  unfolding feed
  close_paren e g place d ps E x =
      kind_leads (kind.Mark sign.CloseParen) _ _ (λ n p i. subst (λ (q : Step). Passes limit q (have_operand d (paren e place) ps E)) (sym (ends e g n (token (kind.Mark sign.CloseParen) p) refl refl refl (d + 1) (in_paren place d ps E))) refl)

  -- `)` or `,` behind an argument
  close_argument : (e : Expression) → IsExpression e → (d : ℕ) (given : List Expression) (K : InCall) (x : List Piece) → Leads limit total (mark sign.CloseParen ∷ x) (behind e d [] (in_argument d given K)) x (have_arguments (given ++ (e ∷ [])) K)
  unfolding feed
  close_argument e g d given K x =
      kind_leads (kind.Mark sign.CloseParen) _ _ (λ n p i. subst (λ (q : Step). Passes limit q (have_arguments (given ++ (e ∷ [])) K)) (sym (ends e g n (token (kind.Mark sign.CloseParen) p) refl refl refl d (in_argument d given K))) refl)

  comma_argument : (e : Expression) → IsExpression e → (d : ℕ) (given : List Expression) (K : InCall) (x : List Piece) → Leads limit total (mark sign.Comma ∷ x) (behind e d [] (in_argument d given K)) x (want_operand d [] (in_argument d (given ++ (e ∷ [])) K))
  unfolding feed
  comma_argument e g d given K x =
      kind_leads (kind.Mark sign.Comma) _ _ (λ n p i. subst (λ (q : Step). Passes limit q (want_operand d [] (in_argument d (given ++ (e ∷ [])) K))) (sym (ends e g n (token (kind.Mark sign.Comma) p) refl refl refl d (in_argument d given K))) refl)

  mutual
    unfolding feed

    -- an expression
    pub reads : (e : Expression) → IsExpression e → (d : ℕ) (ps : List Pending) (E : InExpression) (x : List Piece) → d + below_expression e ≤ limit → Stacked ps (level e) → Leads limit total (spell_expression e x) (want_operand d ps E) x (behind e d ps E)
    reads (number (pos v) place) g d ps E x l h = placed_leads (kind.Number (pos v)) place (want_operand d ps E) (have_operand d (number (pos v) place) ps E) (λ n i. (omega (arith, l), refl))
    reads (number (negsuc v) place) g d ps E x l h = absurd g
    reads (path names) g d ps E x l h = reads_path names g d ps E x (omega (arith, l))
    reads (paren e place) g d ps E x l h =
        next (placed_leads (kind.Mark sign.OpenParen) place (want_operand d ps E) (want_operand (d + 1) [] (in_paren place d ps E)) (λ n i. (omega (arith, l), refl)))
        (next (reads e g (d + 1) [] (in_paren place d ps E) (mark sign.CloseParen ∷ x) (omega (arith, l)) tt) (close_paren e g place d ps E x))
    reads (unary op e place) g d ps E x l h =
        next (placed_leads (kind.Mark (unary_mark op)) place (want_operand d ps E) (want_operand (d + 1) (before_operand d op place ∷ ps) E) (λ n i. reads_prefix op place d ps E n (omega (arith, l))))
        (reads e g.0 (d + 1) (before_operand d op place ∷ ps) E x (omega (arith, l)) g.1)
    reads (binary op a b) g d ps E x l h =
        next (reads a g.0 d ps E (mark (binary_mark op) ∷ spell_expression b x) (omega (arith, l)) (stacked_more ps op (level a) g.2 h))
        (next (kind_leads (kind.Mark (binary_mark op)) (behind a d ps E) (want_operand (d + 1) (behind_operand d op a ∷ ps) E)
        (λ n place i. subst (λ (q : Step). Passes limit q (want_operand (d + 1) (behind_operand d op a ∷ ps) E)) (sym (operator_comes op a g.0 g.2 n place d ps E h)) (omega (arith, l), refl)))
        (reads b g.1 (d + 1) (behind_operand d op a ∷ ps) E x (omega (arith, l)) g.3))
    reads (call names es) g d ps E x l h =
        next (reads_path names g.0 d ps E (mark sign.OpenParen ∷ spell_arguments es (mark sign.CloseParen ∷ x)) (omega (arith, l)))
        (next (kind_leads (kind.Mark sign.OpenParen) (after_path names (of_operand d ps E)) (after_open (d + 1) (of_call names d ps E)) (λ n place i. refl))
        (ends_as (have_operand d (call names es) ps E) (ap (λ q. have_operand d (call names q) ps E) (from_listed es)) (reads_arguments es g.1 (d + 1) (of_call names d ps E) x (omega (arith, l)))))
    reads (std_call m es place) g d ps E x l h =
        next (placed_leads (kind.Word keyword.Std) place (want_operand d ps E) (expect (kind.Mark sign.ColonColon) (want_name (of_std_operand place d ps E))) (λ n i. (omega (arith, l), refl)))
        (next (kind_leads (kind.Mark sign.ColonColon) (expect (kind.Mark sign.ColonColon) (want_name (of_std_operand place d ps E))) (want_name (of_std_operand place d ps E)) (λ n p i. refl))
        (next (name_leads m (want_name (of_std_operand place d ps E)) (λ o. expect (kind.Mark sign.OpenParen) (after_open (d + 1) (of_std_call o place d ps E))) (λ n i. refl))
        (next (kind_leads (kind.Mark sign.OpenParen) (expect (kind.Mark sign.OpenParen) (after_open (d + 1) (of_std_call m place d ps E))) (after_open (d + 1) (of_std_call m place d ps E)) (λ n p i. refl))
        (ends_as (have_operand d (std_call m es place) ps E) (ap (λ q. have_operand d (std_call m q place) ps E) (from_listed es)) (reads_arguments es g (d + 1) (of_std_call m place d ps E) x (omega (arith, l)))))))

    -- arguments at a depth
    pub reads_arguments : (es : Expressions) → AreExpressions es → (d : ℕ) (K : InCall) (x : List Piece) → d + below_expressions es ≤ limit + 1 → Leads limit total (spell_arguments es (mark sign.CloseParen ∷ x)) (after_open d K) x (have_arguments (listed es) K)
    reads_arguments no_expressions g d K x l = kind_leads (kind.Mark sign.CloseParen) (after_open d K) (have_arguments [] K) (λ n place i. refl)
    reads_arguments (expression_then e es) g d K x l =
        alike Begins (after_open d K) (want_operand d [] (in_argument d [] K)) (opening e (spell_more es (mark sign.CloseParen ∷ x)) g.0) (λ n t q. opens_alike limit n t d K q)
        (next (reads e g.0 d [] (in_argument d [] K) (spell_more es (mark sign.CloseParen ∷ x)) (omega (arith, l)) tt) (reads_more es g.1 e g.0 [] d K x (omega (arith, l))))

    -- further arguments behind one
    pub reads_more : (es : Expressions) → AreExpressions es → (e : Expression) → IsExpression e → (given : List Expression) (d : ℕ) (K : InCall) (x : List Piece) → d + below_expressions es ≤ max (limit + 1) d → Leads limit total (spell_more es (mark sign.CloseParen ∷ x)) (behind e d [] (in_argument d given K)) x (have_arguments (given ++ (e ∷ listed es)) K)
    reads_more no_expressions g e f given d K x l = close_argument e f d given K x
    reads_more (expression_then a es) g e f given d K x l =
        next (comma_argument e f d given K (spell_expression a (spell_more es (mark sign.CloseParen ∷ x))))
        (next (reads a g.0 d [] (in_argument d (given ++ (e ∷ [])) K) (spell_more es (mark sign.CloseParen ∷ x)) (omega (arith, l)) tt)
        (ends_as (have_arguments (given ++ (e ∷ a ∷ listed es)) K) (ap (λ q. have_arguments q K) (append_assoc given (e ∷ []) (a ∷ listed es))) (reads_more es g.1 a g.0 (given ++ (e ∷ [])) d K x (omega (arith, l)))))
