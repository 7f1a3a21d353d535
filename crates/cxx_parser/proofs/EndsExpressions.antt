-- An expression that ended can be ended with all around it.
use Rattle.std.specs.Prelude.{ℕ, ◌+◌, ◌≡◌, ◌≤◌, List, [], ◌∷◌, ◌++◌, refl}
use Rattle.std.proofs.Common.{sym, subst, arith}
use Rattle.cxx_ast.specs.declared.mark.Mark.TheVariants as sign
use Rattle.cxx_ast.specs.declared.name.Name.{Name}
use Rattle.cxx_ast.specs.declared.token.TokenKind.{TokenKind}
use Rattle.cxx_ast.specs.declared.token.TokenKind.TheVariants as kind
use Rattle.cxx_ast.specs.Plain.{Expression, path}
use Rattle.cxx_parser.specs.Contexts.{InStatement, in_then, in_while, of_return, of_throw, Pending, before_operand, behind_operand, InExpression, in_paren, in_argument, in_if_test, in_while_test, in_jump, in_assign, in_local_int, InCall, of_call, of_std_call, of_call_statement, of_std_call_statement, of_object, of_initialiser, of_operand}
use Rattle.cxx_parser.specs.Expressions.{have_arguments, feed_expression, feed_operand}
use Rattle.cxx_parser.specs.Operators.{gathered}
use Rattle.cxx_parser.specs.Reading.{feed}
use Rattle.cxx_parser.specs.States.{Step, have_operand, after_path, want_statement, have_statement}
use Rattle.cxx_parser.proofs.EndsStatements.{Ends, comes, Ending, by_step, semicolon, statement_ends, end_ends, initialised_ends}
use Rattle.cxx_parser.proofs.Past.{token}
use Rattle.cxx_parser.proofs.Sound.{expression_depth, operand_depth, SoundPending, SoundExpression, SoundCall}

-- the mark that ends an expression
abbrev pub closer : InExpression → TokenKind
closer (in_paren place c ps E) = kind.Mark sign.CloseParen
closer (in_argument d es K) = kind.Mark sign.CloseParen
closer (in_if_test c C) = kind.Mark sign.CloseParen
closer (in_while_test c C) = kind.Mark sign.CloseParen
closer (in_jump jump) = semicolon
closer (in_assign names C) = semicolon
closer (in_local_int m C) = semicolon

-- it is no operator, and goes on with no path
pub closes_operand : (E : InExpression) (d : ℕ) (e : Expression) (ps : List Pending) → feed_operand (token (closer E) 0) d e ps E ≡ feed_expression (token (closer E) 0) (gathered 0 d e ps).value E
closes_operand (in_paren place c qs E) d e ps = refl
closes_operand (in_argument c es K) d e ps = refl
closes_operand (in_if_test c C) d e ps = refl
closes_operand (in_while_test c C) d e ps = refl
closes_operand (in_jump jump) d e ps = refl
closes_operand (in_assign names C) d e ps = refl
closes_operand (in_local_int m C) d e ps = refl

pub closes_path : (E : InExpression) (n d : ℕ) (names : List Name) (ps : List Pending) → feed n (token (closer E) 0) (after_path names (of_operand d ps E)) ≡ feed_operand (token (closer E) 0) d (path names) ps E
unfolding feed
closes_path (in_paren place c qs E) n d names ps = refl
closes_path (in_argument c es K) n d names ps = refl
closes_path (in_if_test c C) n d names ps = refl
closes_path (in_while_test c C) n d names ps = refl
closes_path (in_jump jump) n d names ps = refl
closes_path (in_assign other C) n d names ps = refl
closes_path (in_local_int m C) n d names ps = refl

-- operators that wait stand no higher than their expression
pub pending_depth : (limit : ℕ) (ps : List Pending) (E : InExpression) → SoundPending limit ps E → expression_depth E ≤ operand_depth ps E
pending_depth limit [] E s = omega arith
pending_depth limit (before_operand c op place ∷ ps) E s = let r = pending_depth limit ps E s.1 in omega (arith, r, s.0)
pending_depth limit (behind_operand c op a ∷ ps) E s = let r = pending_depth limit ps E s.4 in omega (arith, r, s.0)

module _ (limit : ℕ) where
  -- a step that is the same as another
  pub step_as : {n : ℕ} {x y : Step} → x ≡ y → Ending limit n y → Ending limit n x
  step_as {n} {x} {y} e h = subst (λ (z : Step). Ending limit n z) (sym e) h

  -- an empty statement behind the test of an `if` or a `while`
  pub empty_ends : (C : InStatement) (d n : ℕ) → d ≤ limit → Ends limit n (want_statement d C)
  unfolding feed
  empty_ends C d n l = comes semicolon (l, refl) (statement_ends limit C _ (n + 1))

  mutual
    unfolding feed

    -- an expression that its mark ends, with all around it
    pub expression_ending : (E : InExpression) → SoundExpression limit E → expression_depth E ≤ limit → (e : Expression) (n : ℕ) → Ending limit n (feed_expression (token (closer E) 0) e E)
    expression_ending (in_paren place c ps E) s l e n = record { after = have_operand c _ ps E; leads_there = refl; ends = by_step (closer E) (step_as (closes_operand E c _ ps) (expression_ending E s.2 (omega (arith, l, s.0, pending_depth limit ps E s.1)) _ (n + 1))) }
    expression_ending (in_argument d es K) s l e n = record { after = have_arguments (es ++ (e ∷ [])) K; leads_there = refl; ends = arguments_end K s.2 (es ++ (e ∷ [])) (n + 1) }
    expression_ending (in_if_test c C) s l e n = record { after = want_statement (c + 1) (in_then e c C); leads_there = refl; ends = empty_ends (in_then e c C) (c + 1) (n + 1) l }
    expression_ending (in_while_test c C) s l e n = record { after = want_statement (c + 1) (in_while e C); leads_there = refl; ends = empty_ends (in_while e C) (c + 1) (n + 1) (omega (arith, l)) }
    expression_ending (in_jump (of_return place C)) s l e n = record { after = have_statement _ C; leads_there = refl; ends = statement_ends limit C _ (n + 1) }
    expression_ending (in_jump (of_throw place C)) s l e n = record { after = have_statement _ C; leads_there = refl; ends = statement_ends limit C _ (n + 1) }
    expression_ending (in_assign names C) s l e n = record { after = have_statement _ C; leads_there = refl; ends = statement_ends limit C _ (n + 1) }
    expression_ending (in_local_int m C) s l e n = record { after = have_statement _ C; leads_there = refl; ends = statement_ends limit C _ (n + 1) }

    -- arguments that ended
    pub arguments_end : (K : InCall) → SoundCall limit K → (es : List Expression) (n : ℕ) → Ends limit n (have_arguments es K)
    arguments_end (of_call names c ps E) s es n = by_step (closer E) (step_as (closes_operand E c _ ps) (expression_ending E s.4 (omega (arith, s.1, s.2, pending_depth limit ps E s.3)) _ n))
    arguments_end (of_std_call m place c ps E) s es n = by_step (closer E) (step_as (closes_operand E c _ ps) (expression_ending E s.3 (omega (arith, s.0, s.1, pending_depth limit ps E s.2)) _ n))
    arguments_end (of_call_statement names C) s es n = end_ends limit C _ n
    arguments_end (of_std_call_statement m place C) s es n = end_ends limit C _ n
    arguments_end (of_object c m C) s es n = end_ends limit C _ n
    arguments_end (of_initialiser m sig) s es n = initialised_ends limit n _

  -- an operand that ended
  pub operand_ends : (E : InExpression) → SoundExpression limit E → (d : ℕ) (e : Expression) (ps : List Pending) (n : ℕ) → expression_depth E ≤ limit → Ends limit n (have_operand d e ps E)
  unfolding feed
  operand_ends E s d e ps n l = by_step (closer E) (step_as (closes_operand E d e ps) (expression_ending E s l _ n))
