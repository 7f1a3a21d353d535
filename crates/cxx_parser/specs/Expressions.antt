-- What a token does in an expression or behind one.
use Rattle.std.specs.Prelude.{ℕ, ◌+◌, Bool, List, [], ◌∷◌, ◌++◌, Option, Some, None, if◌then◌else◌}
use Rattle.cxx_ast.specs.declared.expression.BinaryOp.{BinaryOp}
use Rattle.cxx_ast.specs.declared.keyword.Keyword.TheVariants as keyword
use Rattle.cxx_ast.specs.declared.mark.Mark.TheVariants as sign
use Rattle.cxx_ast.specs.declared.name.Name.{Name}
use Rattle.cxx_ast.specs.declared.token.Token.{Token}
use Rattle.cxx_ast.specs.declared.token.TokenKind.TheVariants as kind
use Rattle.cxx_ast.specs.Operator.{binary_level}
use Rattle.cxx_ast.specs.Plain.{Expression, Initialiser, number, path, paren, call, std_call, return, throw, assign, evaluate, local_int, local_object, local_ref}
use Rattle.cxx_parser.specs.Contexts.{Signature, InJump, of_return, of_throw, Pending, before_operand, InExpression, in_paren, in_argument, in_if_test, in_while_test, in_jump, in_assign, in_local_int, InCall, of_call, of_std_call, of_call_statement, of_std_call_statement, of_object, of_initialiser, InPath, of_operand, of_statement, of_reference, in_then, in_while, of_path, of_std_operand}
use Rattle.cxx_parser.specs.Signs.{is_mark, is_word, name_of, literal_of, operator_of, prefix_of}
use Rattle.cxx_parser.specs.States.{State, expect, want_name, want_operand, have_operand, after_path, after_open, want_statement, have_statement, have_initialiser, Step, stops, leads, within}
use Rattle.cxx_parser.specs.Stored.{expressions_from}
use Rattle.cxx_parser.specs.Operators.{gathered, with_operator}

-- a mark, and what it leads to
abbrev pub on_mark : Bool → State → Step
on_mark b s = if b then leads s else stops

-- a `return` or a `throw` was read
abbrev pub have_jump : Option Expression → InJump → State
have_jump value (of_return place C) = have_statement (return place value) C
have_jump value (of_throw place C) = have_statement (throw place value) C

-- what stands before a body, with a further initialiser
abbrev pub with_initialiser : Signature → Initialiser → Signature
with_initialiser s i = record { heading = s.heading; parameters = s.parameters; specification = s.specification; in_full = s.in_full; initialisers = s.initialisers ++ (i ∷ []) }

-- the arguments of a call were read
abbrev pub have_arguments : List Expression → InCall → State
have_arguments es (of_call names depth ps E) = have_operand depth (call names (expressions_from es)) ps E
have_arguments es (of_std_call n place depth ps E) = have_operand depth (std_call n (expressions_from es) place) ps E
have_arguments es (of_call_statement names C) = expect (kind.Mark sign.Semicolon) (have_statement (evaluate (call names (expressions_from es))) C)
have_arguments es (of_std_call_statement n place C) = expect (kind.Mark sign.Semicolon) (have_statement (evaluate (std_call n (expressions_from es) place)) C)
have_arguments es (of_object c n C) = expect (kind.Mark sign.Semicolon) (have_statement (local_object c n (expressions_from es)) C)
have_arguments es (of_initialiser n s) = have_initialiser (with_initialiser s (record { name = n; arguments = expressions_from es }))

-- a token behind arguments
abbrev pub feed_argument : Token → ℕ → List Expression → InCall → Step
feed_argument t depth es K =
    if is_mark sign.Comma t.kind then leads (want_operand depth [] (in_argument depth es K))
    else on_mark (is_mark sign.CloseParen t.kind) (have_arguments es K)

-- a token behind an expression
abbrev pub feed_expression : Token → Expression → InExpression → Step
feed_expression t e (in_paren place depth ps E) = on_mark (is_mark sign.CloseParen t.kind) (have_operand depth (paren e place) ps E)
feed_expression t e (in_argument depth es K) = feed_argument t depth (es ++ (e ∷ [])) K
feed_expression t e (in_if_test depth C) = on_mark (is_mark sign.CloseParen t.kind) (want_statement (depth + 1) (in_then e depth C))
feed_expression t e (in_while_test depth C) = on_mark (is_mark sign.CloseParen t.kind) (want_statement (depth + 1) (in_while e C))
feed_expression t e (in_jump J) = on_mark (is_mark sign.Semicolon t.kind) (have_jump (Some e) J)
feed_expression t e (in_assign names C) = on_mark (is_mark sign.Semicolon t.kind) (have_statement (assign names e) C)
feed_expression t e (in_local_int n C) = on_mark (is_mark sign.Semicolon t.kind) (have_statement (local_int n (Some e)) C)

-- a token that is this operator, or none, behind an operand
abbrev pub feed_operator : Option BinaryOp → Token → ℕ → Expression → List Pending → InExpression → Step
feed_operator None t depth e ps E = feed_expression t ((gathered 0 depth e ps).value) E
feed_operator (Some op) t depth e ps E = with_operator op (gathered (binary_level op) depth e ps) E

-- a token behind an operand
abbrev pub feed_operand : Token → ℕ → Expression → List Pending → InExpression → Step
feed_operand t depth e ps E = feed_operator (operator_of t.kind) t depth e ps E

-- a token behind a whole path
abbrev pub feed_path : Token → List Name → InPath → Step
feed_path t names (of_operand depth ps E) =
    if is_mark sign.OpenParen t.kind then leads (after_open (depth + 1) (of_call names depth ps E))
    else feed_operand t depth (path names) ps E
feed_path t names (of_statement depth C) =
    if is_mark sign.OpenParen t.kind then leads (after_open (depth + 2) (of_call_statement names C))
    else on_mark (is_mark sign.Assign t.kind) (want_operand (depth + 1) [] (in_assign names C))
feed_path t names (of_reference p C) = on_mark (is_mark sign.Semicolon t.kind) (have_statement (local_ref p names) C)

-- a token behind the names of a path
abbrev pub feed_names : Token → List Name → InPath → Step
feed_names t names P = if is_mark sign.Dot t.kind then leads (want_name (of_path names P)) else feed_path t names P

-- the first token of an operand that is in parentheses or a call of `std::`
abbrev pub begin_bracket : Token → ℕ → List Pending → InExpression → Step
begin_bracket t depth ps E =
    if is_mark sign.OpenParen t.kind then within (depth + 1) (want_operand (depth + 1) [] (in_paren t.place depth ps E))
    else if is_word keyword.Std t.kind then within depth (expect (kind.Mark sign.ColonColon) (want_name (of_std_operand t.place depth ps E)))
    else stops

-- the first token of an operand that has no operator before it
abbrev pub begin_rest : Token → ℕ → List Pending → InExpression → Step
begin_rest t depth ps E = elim (literal_of t.kind) [
  | Some v ↦ within depth (have_operand depth (number v t.place) ps E)
  | None ↦ elim (name_of t) [
    | Some n ↦ within depth (after_path (n ∷ []) (of_operand depth ps E))
    | None ↦ begin_bracket t depth ps E
  ]
]

-- the first token of an operand
abbrev pub begin_operand : Token → ℕ → List Pending → InExpression → Step
begin_operand t depth ps E = elim (prefix_of t.kind) [
  | Some op ↦ within (depth + 1) (want_operand (depth + 1) (before_operand depth op t.place ∷ ps) E)
  | None ↦ begin_rest t depth ps E
]

-- a token behind the `(` of arguments
abbrev pub feed_open : Token → ℕ → InCall → Step
feed_open t depth K = if is_mark sign.CloseParen t.kind then leads (have_arguments [] K) else begin_operand t depth [] (in_argument depth [] K)
