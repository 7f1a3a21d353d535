-- What a token does among declarations and members. The number before a token is that of the tokens before it.
use Rattle.std.specs.Prelude.{ℕ, ◌+◌, ℤ, pos, neg_ℤ, List, [], ◌∷◌, ◌++◌, Option, Some, None, if◌then◌else◌}
use Rattle.cxx_ast.specs.declared.declaration.FuncKind.{FuncKind}
use Rattle.cxx_ast.specs.declared.declaration.FuncKind.TheVariants.{Plain, Method, Constructor, Destructor}
use Rattle.cxx_ast.specs.declared.keyword.Keyword.TheVariants as keyword
use Rattle.cxx_ast.specs.declared.mark.Mark.TheVariants as sign
use Rattle.cxx_ast.specs.declared.name.Name.{Name}
use Rattle.cxx_ast.specs.declared.token.Token.{Token}
use Rattle.cxx_ast.specs.declared.token.TokenKind.TheVariants as kind
use Rattle.cxx_ast.specs.declared.types.Ty.TheVariants.{Int, Void, Object}
use Rattle.cxx_ast.specs.declared.types.Param.{Param}
use Rattle.cxx_ast.specs.Plain.{Declaration, class_declaration, global_declaration}
use Rattle.cxx_ast.specs.Spelling.{is_bad_exception}
use Rattle.cxx_parser.specs.Contexts.{OpenClass, Holder, of_program, of_class, InName, of_path, of_std_operand, of_std_statement, of_referred, of_int, of_void, of_destructor, of_class_name, of_base, of_initialised, of_std_call, of_std_call_statement, of_reference, of_initialiser}
use Rattle.cxx_parser.specs.Signs.{is_mark, is_word, name_of, literal_of}
use Rattle.cxx_parser.specs.States.{State, expect, want_name, after_path, after_open, after_params_open, after_params, after_declared, after_class_name, after_class_colon, in_class, after_member_name, after_assign, after_minus, want_declaration, Step, stops, leads, unless}
use Rattle.cxx_parser.specs.Expressions.{on_mark}

-- a function of the program, or one of a class
abbrev pub kind_in : Holder → FuncKind
kind_in (of_program ds) = Plain
kind_in (of_class c) = Method

-- a class without members
abbrev pub empty_class : Name → Option Name → List Declaration → OpenClass
empty_class n base ds = record { name = n; base = base; members = []; functions = []; before = ds }

-- a class with a further data member
abbrev pub with_member : OpenClass → Param → OpenClass
with_member c p = record c { members = c.members ++ (p ∷ []) }

-- a class that ends
abbrev pub closed_class : OpenClass → Declaration
closed_class c = class_declaration (record { name = c.name; base = c.base; members = c.members; functions = c.functions })

-- a name was read
abbrev pub have_name : Name → InName → State
have_name n (of_path names P) = after_path (names ++ (n ∷ [])) P
have_name n (of_std_operand place depth ps E) = expect (kind.Mark sign.OpenParen) (after_open (depth + 1) (of_std_call n place depth ps E))
have_name n (of_std_statement place depth C) = expect (kind.Mark sign.OpenParen) (after_open (depth + 2) (of_std_call_statement n place C))
have_name n (of_referred p C) = after_path (n ∷ []) (of_reference p C)
have_name n (of_int start h) = after_declared n start h
have_name n (of_void start h) = expect (kind.Mark sign.OpenParen) (after_params_open (record { kind = kind_in h; result = Void; name = n; start = start; holder = h }))
have_name n (of_destructor start c) =
    expect (kind.Mark sign.OpenParen) (expect (kind.Mark sign.CloseParen) (after_params [] (record { kind = Destructor; result = Void; name = n; start = start; holder = of_class c })))
have_name n (of_class_name ds) = after_class_name n ds
have_name n (of_base c ds) = expect (kind.Mark sign.OpenBrace) (in_class (empty_class c (Some n) ds))
have_name n (of_initialised s) = expect (kind.Mark sign.OpenParen) (after_open 2 (of_initialiser n s))

-- a token that must be a name
abbrev pub feed_name : Token → InName → Step
feed_name t N = elim (name_of t) [ Some n ↦ leads (have_name n N) | None ↦ stops ]

-- a token behind an int's name that is no function
abbrev pub feed_variable : Token → Name → Holder → Step
feed_variable t n (of_program ds) =
    if is_mark sign.Assign t.kind then leads (after_assign n ds)
    else on_mark (is_mark sign.Semicolon t.kind) (want_declaration (ds ++ (global_declaration n (pos 0) ∷ [])))
feed_variable t n (of_class c) = on_mark (is_mark sign.Semicolon t.kind) (in_class (with_member c (record { ty = Int; name = Some n })))

-- a token behind `int` and a name
abbrev pub feed_declared : Token → Name → ℕ → Holder → Step
feed_declared t n start h =
    if is_mark sign.OpenParen t.kind then leads (after_params_open (record { kind = kind_in h; result = Int; name = n; start = start; holder = h }))
    else feed_variable t n h

-- a global with its first value
abbrev pub have_value : Name → ℤ → List Declaration → State
have_value n value ds = expect (kind.Mark sign.Semicolon) (want_declaration (ds ++ (global_declaration n value ∷ [])))

-- a token behind the minus of a first value
abbrev pub feed_minus : Token → Name → List Declaration → Step
feed_minus t n ds = elim (literal_of t.kind) [ Some value ↦ leads (have_value n (neg_ℤ value) ds) | None ↦ stops ]

-- a token behind the `=` of a first value
abbrev pub feed_assign : Token → Name → List Declaration → Step
feed_assign t n ds =
    if is_mark sign.Minus t.kind then leads (after_minus n ds)
    else elim (literal_of t.kind) [ Some value ↦ leads (have_value n value ds) | None ↦ stops ]

-- a token behind a class's name
abbrev pub feed_class_name : Token → Name → List Declaration → Step
feed_class_name t n ds =
    if is_mark sign.Colon t.kind then leads (after_class_colon n ds)
    else on_mark (is_mark sign.OpenBrace t.kind) (in_class (empty_class n None ds))

-- a token behind the colon of a base
abbrev pub feed_class_colon : Token → Name → List Declaration → Step
feed_class_colon t n ds =
    if is_word keyword.Public t.kind then leads (want_name (of_base n ds))
    else feed_name t (of_base n ds)

-- a token behind a name that begins a member
abbrev pub feed_member_name : Token → Name → ℕ → OpenClass → Step
feed_member_name t n start c =
    if is_mark sign.OpenParen t.kind then leads (after_params_open (record { kind = Constructor; result = Void; name = n; start = start; holder = of_class c }))
    else elim (name_of t) [
      | Some m ↦ unless (is_bad_exception n) (leads (expect (kind.Mark sign.Semicolon) (in_class (with_member c (record { ty = Object n; name = Some m })))))
      | None ↦ stops
    ]

-- the first token of a member
abbrev pub begin_member : ℕ → Token → OpenClass → Step
begin_member at t c =
    if is_word keyword.Int t.kind then leads (want_name (of_int at (of_class c)))
    else if is_word keyword.Void t.kind then leads (want_name (of_void at (of_class c)))
    else if is_mark sign.Tilde t.kind then leads (want_name (of_destructor (at + 1) c))
    else elim (name_of t) [
      | Some n ↦ leads (after_member_name n at c)
      | None ↦ stops
    ]

-- a token behind the members of a class
abbrev pub feed_member : ℕ → Token → OpenClass → Step
feed_member at t c =
    if is_mark sign.CloseBrace t.kind then leads (expect (kind.Mark sign.Semicolon) (want_declaration (c.before ++ (closed_class c ∷ []))))
    else begin_member at t c

-- the first token of a declaration
abbrev pub begin_declaration : ℕ → Token → List Declaration → Step
begin_declaration at t ds =
    if is_word keyword.Struct t.kind then leads (want_name (of_class_name ds))
    else if is_word keyword.Int t.kind then leads (want_name (of_int at (of_program ds)))
    else if is_word keyword.Void t.kind then leads (want_name (of_void at (of_program ds)))
    else stops
