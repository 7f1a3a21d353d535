-- The state behind an expression that was read, and what a token does in it.
use Rattle.std.specs.Prelude.{ℕ, ◌+◌, ◌≡◌, ◌≤◌, true, false, List, [], ◌∷◌, Option, Some, None, nat_le, refl}
use Rattle.std.proofs.Common.{ap, sym, ◌∙◌, subst, arith}
use Rattle.std.proofs.lemmas.Bool.Decides.{nat_tests}
use Rattle.cxx_ast.specs.declared.expression.UnaryOp.{UnaryOp}
use Rattle.cxx_ast.specs.declared.expression.UnaryOp.TheVariants.{Minus, Not}
use Rattle.cxx_ast.specs.declared.expression.BinaryOp.{BinaryOp}
use Rattle.cxx_ast.specs.declared.expression.BinaryOp.TheVariants.{Add, Subtract, Multiply, Divide, Remainder, Less, Greater, LessEqual, GreaterEqual, Equal, NotEqual, And, Or}
use Rattle.cxx_ast.specs.declared.mark.Mark.TheVariants as sign
use Rattle.cxx_ast.specs.declared.token.Token.{Token}
use Rattle.cxx_ast.specs.declared.token.TokenKind.TheVariants as kind
use Rattle.cxx_ast.specs.Depth.{below_expression}
use Rattle.cxx_ast.specs.Grammatical.{IsExpression}
use Rattle.cxx_ast.specs.Operator.{unary_mark, binary_mark, binary_level, level}
use Rattle.cxx_ast.specs.Plain.{Expression, number, path, paren, unary, binary, call, std_call}
use Rattle.cxx_parser.specs.Contexts.{Pending, before_operand, behind_operand, InExpression, of_operand}
use Rattle.cxx_parser.specs.Expressions.{feed_operator, feed_expression}
use Rattle.cxx_parser.specs.Operators.{Operand, gathered, with_operator}
use Rattle.cxx_parser.specs.Reading.{feed}
use Rattle.cxx_parser.specs.Signs.{is_mark, operator_of, prefix_of, level_of}
use Rattle.cxx_parser.specs.States.{State, have_operand, after_path, want_operand, within}
use Rattle.cxx_parser.proofs.Sound.{Stacked}
use Rattle.cxx_parser.proofs.SoundExpressions.{levels, operand}

-- the state behind an expression at a depth, where nothing shows yet that it ended
abbrev pub behind : Expression → ℕ → List Pending → InExpression → State
behind (path names) d ps E = after_path names (of_operand d ps E)
behind (unary op e place) d ps E = behind e (d + 1) (before_operand d op place ∷ ps) E
behind (binary op a b) d ps E = behind b (d + 1) (behind_operand d op a ∷ ps) E
behind (number v place) d ps E = have_operand d (number v place) ps E
behind (paren e place) d ps E = have_operand d (paren e place) ps E
behind (call names es) d ps E = have_operand d (call names es) ps E
behind (std_call n es place) d ps E = have_operand d (std_call n es place) ps E

-- an operator before an operand is taken by whatever comes
prefix_taken : (o : Option BinaryOp) (t : Token) (c d : ℕ) (op : UnaryOp) (place : ℕ) (e : Expression) (ps : List Pending) (E : InExpression) → feed_operator o t c e (before_operand d op place ∷ ps) E ≡ feed_operator o t d (unary op e place) ps E
prefix_taken None t c d op place e ps E = refl
prefix_taken (Some other) t c d op place e ps E = refl

-- one between operands by what binds no tighter
operator_taken : (o : Option BinaryOp) (t : Token) (c d : ℕ) (op : BinaryOp) (a e : Expression) (ps : List Pending) (E : InExpression) → level_of o ≤ binary_level op → feed_operator o t c e (behind_operand d op a ∷ ps) E ≡ feed_operator o t d (binary op a e) ps E
operator_taken None t c d op a e ps E l = let le : nat_le 0 (binary_level op) ≡ true = grind (arith, nat_tests) in rw le refl
operator_taken (Some other) t c d op a e ps E l = let le : nat_le (binary_level other) (binary_level op) ≡ true = grind (arith, nat_tests) in rw le refl

-- a path ends where neither `.` nor `(` comes
path_ends : (n : ℕ) (t : Token) (names : List _) (d : ℕ) (ps : List Pending) (E : InExpression) → is_mark sign.Dot t.kind ≡ false → is_mark sign.OpenParen t.kind ≡ false → feed n t (after_path names (of_operand d ps E)) ≡ feed_operator (operator_of t.kind) t d (path names) ps E
unfolding feed
path_ends n t names d ps E h i = rw (h, i) refl

-- a token that goes on with no part of an expression is one behind the whole of it
pub settles : (e : Expression) → IsExpression e → (n : ℕ) (t : Token) → is_mark sign.Dot t.kind ≡ false → is_mark sign.OpenParen t.kind ≡ false → level_of (operator_of t.kind) ≤ level e → (d : ℕ) (ps : List Pending) (E : InExpression) → feed n t (behind e d ps E) ≡ feed_operator (operator_of t.kind) t d e ps E
unfolding feed
settles (number v place) g n t h i l d ps E = refl
settles (path names) g n t h i l d ps E = path_ends n t names d ps E h i
settles (paren e place) g n t h i l d ps E = refl
settles (unary op e place) g n t h i l d ps E =
    settles e g.0 n t h i (omega (arith, l, g.1)) (d + 1) (before_operand d op place ∷ ps) E ∙ prefix_taken (operator_of t.kind) t (d + 1) d op place e ps E
settles (binary op a b) g n t h i l d ps E =
    settles b g.1 n t h i (omega (arith, l, g.3)) (d + 1) (behind_operand d op a ∷ ps) E ∙ operator_taken (operator_of t.kind) t (d + 1) d op a b ps E l
settles (call names es) g n t h i l d ps E = refl
settles (std_call m es place) g n t h i l d ps E = refl

-- a token that ends an expression
pub ends : (e : Expression) → IsExpression e → (n : ℕ) (t : Token) → is_mark sign.Dot t.kind ≡ false → is_mark sign.OpenParen t.kind ≡ false → operator_of t.kind ≡ None → (d : ℕ) (E : InExpression) → feed n t (behind e d [] E) ≡ feed_expression t e E
ends e g n t h i o d E = settles e g n t h i (subst (λ (p : Option BinaryOp). level_of p ≤ level e) (sym o) (omega arith)) d [] E ∙ ap (λ p. feed_operator p t d e [] E) o

-- the operators' marks
pub operator_back : (op : BinaryOp) → operator_of (kind.Mark (binary_mark op)) ≡ Some op
operator_back Add = refl
operator_back Subtract = refl
operator_back Multiply = refl
operator_back Divide = refl
operator_back Remainder = refl
operator_back Less = refl
operator_back Greater = refl
operator_back LessEqual = refl
operator_back GreaterEqual = refl
operator_back Equal = refl
operator_back NotEqual = refl
operator_back And = refl
operator_back Or = refl

pub no_dot : (op : BinaryOp) → (is_mark sign.Dot (kind.Mark (binary_mark op)) ≡ false) × (is_mark sign.OpenParen (kind.Mark (binary_mark op)) ≡ false)
no_dot Add = (refl, refl)
no_dot Subtract = (refl, refl)
no_dot Multiply = (refl, refl)
no_dot Divide = (refl, refl)
no_dot Remainder = (refl, refl)
no_dot Less = (refl, refl)
no_dot Greater = (refl, refl)
no_dot LessEqual = (refl, refl)
no_dot GreaterEqual = (refl, refl)
no_dot Equal = (refl, refl)
no_dot NotEqual = (refl, refl)
no_dot And = (refl, refl)
no_dot Or = (refl, refl)

pub prefix_back : (op : UnaryOp) → prefix_of (kind.Mark (unary_mark op)) ≡ Some op
prefix_back Minus = refl
prefix_back Not = refl

-- operators that bind less tightly stay where they are
gathered_none : (op : BinaryOp) (d : ℕ) (e : Expression) (ps : List Pending) → Stacked ps (binary_level op) → gathered (binary_level op) d e ps ≡ operand d e ps
gathered_none op d e [] h = refl
gathered_none op d e (before_operand c o place ∷ ps) h = let l = (levels op).1 in absurd (omega (arith, l, h))
gathered_none op d e (behind_operand c o a ∷ ps) h = let no : nat_le (binary_level op) (binary_level o) ≡ false = grind (arith, nat_tests) in rw no refl

-- an operator behind its left operand
pub operator_comes : (op : BinaryOp) (a : Expression) → IsExpression a → binary_level op ≤ level a → (n place d : ℕ) (ps : List Pending) (E : InExpression) → Stacked ps (binary_level op) → feed n (record { kind = kind.Mark (binary_mark op); place = place }) (behind a d ps E) ≡ within (d + 1 + below_expression a) (want_operand (d + 1) (behind_operand d op a ∷ ps) E)
operator_comes op a g l n place d ps E h =
    let t : Token = record { kind = kind.Mark (binary_mark op); place = place } in
    settles a g n t (no_dot op).0 (no_dot op).1 (subst (λ (p : Option BinaryOp). level_of p ≤ level a) (sym (operator_back op)) l) d ps E
    ∙ ap (λ p. feed_operator p t d a ps E) (operator_back op)
    ∙ ap (λ (o : Operand). with_operator op o E) (gathered_none op d a ps h)

-- what stands on operators also does if it holds together tighter
pub stacked_more : (ps : List Pending) (op : BinaryOp) (l : ℕ) → binary_level op ≤ l → Stacked ps (binary_level op) → Stacked ps l
stacked_more [] op l i h = tt
stacked_more (before_operand c o place ∷ ps) op l i h = let k = (levels op).1 in absurd (omega (arith, k, h))
stacked_more (behind_operand c o a ∷ ps) op l i h = omega (arith, i, h)
