-- What a token does in the parts of a function, and what a function that was read leads to. The number before a token is that of the tokens before it.
use Rattle.std.specs.Prelude.{ℕ, ◌+◌, ◌-◌, Bool, true, false, List, [], ◌∷◌, ◌++◌, codes, Option, Some, None, if◌then◌else◌}
use Rattle.cxx_ast.specs.declared.declaration.FuncKind.{FuncKind}
use Rattle.cxx_ast.specs.declared.declaration.FuncKind.TheVariants.{Plain, Constructor}
use Rattle.cxx_ast.specs.declared.keyword.Keyword.TheVariants as keyword
use Rattle.cxx_ast.specs.declared.mark.Mark.TheVariants as sign
use Rattle.cxx_ast.specs.declared.token.Token.{Token}
use Rattle.cxx_ast.specs.declared.token.TokenKind.TheVariants as kind
use Rattle.cxx_ast.specs.declared.types.Param.{Param}
use Rattle.cxx_ast.specs.Plain.{Statements, Initialiser, listed, noexcept, Function, function_declaration}
use Rattle.cxx_parser.specs.Contexts.{OpenClass, Holder, of_program, of_class, Heading, Signature, of_function, of_specification, of_initialised}
use Rattle.cxx_parser.specs.Signs.{is_mark, is_word, is_name}
use Rattle.cxx_parser.specs.States.{State, expect, want_name, in_statements, after_params, after_throw_open, after_noexcept, after_noexcept_open, have_signature, in_class, want_declaration, Step, stops, leads}
use Rattle.cxx_parser.specs.Expressions.{on_mark}
use Rattle.cxx_parser.specs.Types.{begin_param, begin_listed}

-- a function that its last token ends, with so many tokens before that
abbrev pub function_from : ℕ → Option Statements → Signature → Function
function_from at body s = record {
  name = s.heading.name;
  kind = s.heading.kind;
  result = s.heading.result;
  parameters = s.parameters;
  specification = s.specification;
  initialisers = s.initialisers;
  body = body;
  tokens = at + 1 - s.heading.start;
}

-- what stands before a body, with these initialisers
abbrev pub with_initialisers : Signature → List Initialiser → Signature
with_initialisers s is = record { heading = s.heading; parameters = s.parameters; specification = s.specification; in_full = s.in_full; initialisers = is }

-- a class with a further function
abbrev pub with_function : OpenClass → Function → OpenClass
with_function c f = record c { functions = c.functions ++ (f ∷ []) }

-- a function was read
abbrev pub have_function : Function → Holder → State
have_function f (of_program ds) = want_declaration (ds ++ (function_declaration f ∷ []))
have_function f (of_class c) = in_class (with_function c f)

-- the body of a function was read, with so many tokens before its brace
abbrev pub have_body : ℕ → Statements → Signature → State
have_body at ss s = have_function (function_from at (Some ss) s) s.heading.holder

-- a function that needs no body, and one with initialisers
abbrev pub may_end : FuncKind → Bool
may_end Plain = true
may_end _ = false

abbrev pub takes_initialisers : FuncKind → Bool
takes_initialisers Constructor = true
takes_initialisers _ = false

-- a body begins
abbrev pub open_body : Signature → State
open_body s = in_statements 3 [] (of_function s)

-- a token behind what stands before a body, but for initialisers
abbrev pub feed_signature : ℕ → Token → Signature → Step
feed_signature at t s =
    if is_mark sign.OpenBrace t.kind then leads (open_body s)
    else if takes_initialisers s.heading.kind then on_mark (is_mark sign.Colon t.kind) (want_name (of_initialised s))
    else if may_end s.heading.kind then on_mark (is_mark sign.Semicolon t.kind) (have_function (function_from at None s) s.heading.holder)
    else stops

-- a token behind an initialiser
abbrev pub feed_initialiser : Token → Signature → Step
feed_initialiser t s =
    if is_mark sign.Comma t.kind then leads (want_name (of_initialised s))
    else on_mark (is_mark sign.OpenBrace t.kind) (open_body s)

-- a token behind the `(` of parameters
abbrev pub feed_params_open : Token → Heading → Step
feed_params_open t h = if is_mark sign.CloseParen t.kind then leads (after_params [] h) else begin_param t [] h

-- what stands before a body, with this `noexcept`
abbrev pub quiet : ℕ → Bool → Bool → List Param → Heading → Signature
quiet place in_full is_true ps h = record { heading = h; parameters = ps; specification = Some (noexcept place is_true); in_full = in_full; initialisers = [] }

-- a token behind the `)` of parameters
abbrev pub feed_params : ℕ → Token → List Param → Heading → Step
feed_params at t ps h =
    if is_word keyword.Throw t.kind then leads (expect (kind.Mark sign.OpenParen) (after_throw_open ps h))
    else if is_name (codes "noexcept") t.kind then leads (after_noexcept t.place ps h)
    else feed_signature at t (record { heading = h; parameters = ps; specification = None; in_full = false; initialisers = [] })

-- a token behind `noexcept`
abbrev pub feed_noexcept : ℕ → Token → ℕ → List Param → Heading → Step
feed_noexcept at t place ps h =
    if is_mark sign.OpenParen t.kind then leads (after_noexcept_open place ps h)
    else feed_signature at t (quiet place false true ps h)

-- a token behind `noexcept (`
abbrev pub feed_noexcept_open : Token → ℕ → List Param → Heading → Step
feed_noexcept_open t place ps h =
    if is_word keyword.True t.kind then leads (expect (kind.Mark sign.CloseParen) (have_signature (quiet place true true ps h)))
    else if is_word keyword.False t.kind then leads (expect (kind.Mark sign.CloseParen) (have_signature (quiet place false false ps h)))
    else stops

-- a token behind `throw (`
abbrev pub feed_throw_open : Token → List Param → Heading → Step
feed_throw_open t ps h =
    if is_mark sign.CloseParen t.kind then leads (have_signature (record { heading = h; parameters = ps; specification = Some (listed []); in_full = false; initialisers = [] }))
    else begin_listed t (of_specification [] ps h)
