-- What a token does in a statement or behind one. The number before a token is that of the tokens before it.
use Rattle.std.specs.Prelude.{ℕ, ◌+◌, Bool, true, false, List, [], ◌∷◌, ◌++◌, Some, None, if◌then◌else◌}
use Rattle.cxx_ast.specs.declared.keyword.Keyword.TheVariants as keyword
use Rattle.cxx_ast.specs.declared.mark.Mark.TheVariants as sign
use Rattle.cxx_ast.specs.declared.name.Name.{Name}
use Rattle.cxx_ast.specs.declared.token.Token.{Token}
use Rattle.cxx_ast.specs.declared.token.TokenKind.TheVariants as kind
use Rattle.cxx_ast.specs.declared.types.Ty.TheVariants.{IntRef, ObjectRef}
use Rattle.cxx_ast.specs.Plain.{Statement, block, empty, if_else, while, break, continue, try, local_int, local_object, no_expressions, no_else, else_do, Statements}
use Rattle.cxx_ast.specs.Spelling.{is_bad_exception}
use Rattle.cxx_parser.specs.Contexts.{InStatement, in_then, in_else, in_while, in_block, InBlock, of_block, of_try, of_handler, of_function, InTry, in_try, InJump, of_return, of_throw, in_jump, in_argument, in_if_test, in_while_test, in_local_int, of_object, of_statement, of_local, of_std_statement}
use Rattle.cxx_parser.specs.Signs.{is_mark, is_word, name_of}
use Rattle.cxx_parser.specs.States.{State, expect, want_name, want_operand, after_const, have_type, want_caught, in_statements, have_statement, want_statement, after_jump, after_first_name, after_int, after_int_name, after_object_name, after_handler, Step, stops, leads, unless, within, within_step}
use Rattle.cxx_parser.specs.Stored.{statements_from, handlers_from}
use Rattle.cxx_parser.specs.Expressions.{on_mark, have_jump, begin_operand, feed_names}
use Rattle.cxx_parser.specs.Functions.{have_body}

-- the statements of a block were read
abbrev pub have_block : ℕ → Statements → InBlock → State
have_block at ss (of_block C) = have_statement (block ss) C
have_block at ss (of_try depth C) = expect (kind.Word keyword.Catch) (expect (kind.Mark sign.OpenParen) (want_caught (in_try ss [] depth C)))
have_block at ss (of_handler ty name place (in_try body cs depth C)) = after_handler (in_try body (cs ++ (record { type = ty; name = name; body = ss; place = place } ∷ [])) depth C)
have_block at ss (of_function s) = have_body at ss s

-- a local variable may be declared
abbrev pub takes_locals : InStatement → Bool
takes_locals (in_block depth ss B) = true
takes_locals _ = false

-- the first token of a local variable whose type is no class
abbrev pub begin_local : Token → ℕ → InStatement → Step
begin_local t depth C =
    if is_word keyword.Int t.kind then within depth (after_int depth C)
    else if is_word keyword.Const t.kind then within depth (after_const (of_local C))
    else stops

-- the depth of a statement that begins with a name: a node below it is sure unless it declares a variable
abbrev pub named_depth : ℕ → Bool → ℕ
named_depth depth true = depth
named_depth depth false = depth + 1

-- the first token of a local variable, or of a statement that begins with a name
abbrev pub begin_named : Token → ℕ → InStatement → Step
begin_named t depth C = elim (name_of t) [
  | Some n ↦ within (named_depth depth (takes_locals C)) (after_first_name n depth C)
  | None ↦ if takes_locals C then begin_local t depth C else stops
]

-- the first token of a statement that holds neither statements nor a bare value
abbrev pub begin_plain : Token → ℕ → InStatement → Step
begin_plain t depth C =
    if is_word keyword.Break t.kind then within depth (expect (kind.Mark sign.Semicolon) (have_statement (break t.place) C))
    else if is_word keyword.Continue t.kind then within depth (expect (kind.Mark sign.Semicolon) (have_statement (continue t.place) C))
    else if is_word keyword.Std t.kind then within (depth + 1) (expect (kind.Mark sign.ColonColon) (want_name (of_std_statement t.place depth C)))
    else begin_named t depth C

-- the first token of a statement that holds no other
abbrev pub begin_simple : Token → ℕ → InStatement → Step
begin_simple t depth C =
    if is_mark sign.Semicolon t.kind then within depth (have_statement empty C)
    else if is_word keyword.Return t.kind then within depth (after_jump depth (of_return t.place C))
    else if is_word keyword.Throw t.kind then within depth (after_jump depth (of_throw t.place C))
    else begin_plain t depth C

-- the first token of a statement
abbrev pub begin_statement : Token → ℕ → InStatement → Step
begin_statement t depth C =
    if is_mark sign.OpenBrace t.kind then within depth (in_statements (depth + 1) [] (of_block C))
    else if is_word keyword.If t.kind then within (depth + 1) (expect (kind.Mark sign.OpenParen) (want_operand (depth + 1) [] (in_if_test depth C)))
    else if is_word keyword.While t.kind then within (depth + 1) (expect (kind.Mark sign.OpenParen) (want_operand (depth + 1) [] (in_while_test depth C)))
    else if is_word keyword.Try t.kind then within (depth + 2) (expect (kind.Mark sign.OpenBrace) (in_statements (depth + 2) [] (of_try depth C)))
    else begin_simple t depth C

-- a token behind statements of a block
abbrev pub feed_block : ℕ → Token → ℕ → List Statement → InBlock → Step
feed_block at t depth ss B =
    if is_mark sign.CloseBrace t.kind then leads (have_block at (statements_from ss) B)
    else begin_statement t depth (in_block depth ss B)

-- a token behind a statement
abbrev pub feed_statement : ℕ → Token → Statement → InStatement → Step
feed_statement at t s (in_then e depth C) =
    if is_word keyword.Else t.kind then leads (want_statement (depth + 1) (in_else e s C))
    else feed_statement at t (if_else e s no_else) C
feed_statement at t s (in_else e first C) = feed_statement at t (if_else e first (else_do s)) C
feed_statement at t s (in_while e C) = feed_statement at t (while e s) C
feed_statement at t s (in_block depth ss B) = feed_block at t depth (ss ++ (s ∷ [])) B

-- a token behind a handler
abbrev pub feed_handler : ℕ → Token → InTry → Step
feed_handler at t (in_try ss cs depth C) =
    if is_word keyword.Catch t.kind then leads (expect (kind.Mark sign.OpenParen) (want_caught (in_try ss cs depth C)))
    else feed_statement at t (try ss (handlers_from cs)) C

-- a token behind `return` or `throw`
abbrev pub feed_jump : Token → ℕ → InJump → Step
feed_jump t depth J =
    if is_mark sign.Semicolon t.kind then leads (have_jump None J)
    else begin_operand t (depth + 1) [] (in_jump J)

-- a token behind a name that begins a statement which declares nothing
abbrev pub feed_only_name : Token → Name → ℕ → InStatement → Step
feed_only_name t n depth C = within_step (depth + 1) (feed_names t (n ∷ []) (of_statement depth C))

-- a token behind a class that begins a declaration, or behind another name
abbrev pub feed_class : Token → Name → ℕ → InStatement → Step
feed_class t n depth C =
    if is_mark sign.Amp t.kind then unless (is_bad_exception n) (leads (have_type (ObjectRef false n) (of_local C)))
    else elim (name_of t) [
      | Some m ↦ leads (after_object_name n m depth C)
      | None ↦ feed_only_name t n depth C
    ]

-- a token behind a name that begins a statement
abbrev pub feed_first_name : Token → Name → ℕ → InStatement → Step
feed_first_name t n depth C = if takes_locals C then feed_class t n depth C else feed_only_name t n depth C

-- a token behind `int` of a local variable
abbrev pub feed_int : Token → ℕ → InStatement → Step
feed_int t depth C =
    if is_mark sign.Amp t.kind then leads (have_type (IntRef false) (of_local C))
    else elim (name_of t) [
      | Some n ↦ leads (after_int_name n depth C)
      | None ↦ stops
    ]

-- a token behind the name of a local int
abbrev pub feed_int_name : Token → Name → ℕ → InStatement → Step
feed_int_name t n depth C =
    if is_mark sign.Assign t.kind then within (depth + 1) (want_operand (depth + 1) [] (in_local_int n C))
    else on_mark (is_mark sign.Semicolon t.kind) (have_statement (local_int n None) C)

-- a token behind the name of a local object
abbrev pub feed_object_name : Token → Name → Name → ℕ → InStatement → Step
feed_object_name t c n depth C =
    if is_mark sign.OpenParen t.kind then within (depth + 1) (want_operand (depth + 1) [] (in_argument (depth + 1) [] (of_object c n C)))
    else on_mark (is_mark sign.Semicolon t.kind) (have_statement (local_object c n no_expressions) C)
