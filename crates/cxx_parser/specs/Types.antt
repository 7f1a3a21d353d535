-- What a token does in a type or a parameter.
use Rattle.std.specs.Prelude.{ℕ, ◌+◌, Bool, true, false, List, [], ◌∷◌, ◌++◌, codes, Option, Some, None, if◌then◌else◌}
use Rattle.cxx_ast.specs.declared.keyword.Keyword.TheVariants as keyword
use Rattle.cxx_ast.specs.declared.mark.Mark.TheVariants as sign
use Rattle.cxx_ast.specs.declared.name.Name.{Name}
use Rattle.cxx_ast.specs.declared.name.Bound.TheVariants.{Free}
use Rattle.cxx_ast.specs.declared.token.Token.{Token}
use Rattle.cxx_ast.specs.declared.token.TokenKind.TheVariants as kind
use Rattle.cxx_ast.specs.declared.types.Ty.{Ty}
use Rattle.cxx_ast.specs.declared.types.Ty.TheVariants.{Int, Object, IntRef, ObjectRef}
use Rattle.cxx_ast.specs.declared.types.Param.{Param}
use Rattle.cxx_ast.specs.Plain.{listed}
use Rattle.cxx_parser.specs.Contexts.{Heading, InTry, in_try, of_handler, InType, of_param, of_local, InListed, of_specification, of_caught, of_const_caught, of_referred}
use Rattle.cxx_parser.specs.Signs.{is_mark, is_word, name_of, class_of}
use Rattle.cxx_parser.specs.States.{State, expect, want_name, after_const, after_value_type, have_type, want_listed, have_listed, have_caught, in_statements, want_param, have_param, after_params, have_signature, Step, stops, leads}
use Rattle.cxx_parser.specs.Expressions.{on_mark}

-- a reference to a type, to const where the flag is set
abbrev pub reference_to : Bool → Ty → Ty
reference_to const Int = IntRef const
reference_to const (Object n) = ObjectRef const n
reference_to const other = other

-- `std::bad_exception` with `std` at a place
abbrev pub bad_exception : ℕ → Name
bad_exception place = record { text = codes "std::bad_exception"; place = place; bound = Free }

-- a token behind parameters
abbrev pub feed_param : Token → List Param → Heading → Step
feed_param t ps h =
    if is_mark sign.Comma t.kind then leads (want_param ps h)
    else on_mark (is_mark sign.CloseParen t.kind) (after_params ps h)

-- a token behind a whole type
abbrev pub feed_type : Token → Ty → InType → Step
feed_type t ty (of_param ps h) = elim (name_of t) [
  | Some n ↦ leads (have_param (ps ++ (record { ty = ty; name = Some n } ∷ [])) h)
  | None ↦ feed_param t (ps ++ (record { ty = ty; name = None } ∷ [])) h
]
feed_type t ty (of_local C) = elim (name_of t) [
  | Some n ↦ leads (expect (kind.Mark sign.Assign) (want_name (of_referred (record { ty = ty; name = Some n }) C)))
  | None ↦ stops
]

-- a token behind a type that may be made a reference
abbrev pub feed_value_type : Token → Ty → InType → Step
feed_value_type t ty W = if is_mark sign.Amp t.kind then leads (have_type (reference_to false ty) W) else feed_type t ty W

-- a token behind `const`
abbrev pub feed_const : Token → InType → Step
feed_const t W =
    if is_word keyword.Int t.kind then leads (expect (kind.Mark sign.Amp) (have_type (IntRef true) W))
    else elim (class_of t) [
      | Some n ↦ leads (expect (kind.Mark sign.Amp) (have_type (ObjectRef true n) W))
      | None ↦ stops
    ]

-- the first token of a parameter
abbrev pub begin_param : Token → List Param → Heading → Step
begin_param t ps h =
    if is_word keyword.Const t.kind then leads (after_const (of_param ps h))
    else if is_word keyword.Int t.kind then leads (after_value_type Int (of_param ps h))
    else elim (class_of t) [
      | Some n ↦ leads (expect (kind.Mark sign.Amp) (have_type (ObjectRef false n) (of_param ps h)))
      | None ↦ stops
    ]

-- the first token of a type in a list
abbrev pub begin_listed : Token → InListed → Step
begin_listed t L =
    if is_word keyword.Int t.kind then leads (have_listed Int L)
    else if is_word keyword.Std t.kind then leads (expect (kind.Mark sign.ColonColon) (expect (kind.Name (codes "bad_exception")) (have_listed (Object (bad_exception t.place)) L)))
    else elim (class_of t) [
      | Some n ↦ leads (have_listed (Object n) L)
      | None ↦ stops
    ]

-- what a handler catches was read, with its place
abbrev pub handler_body : Option Ty → Option Name → ℕ → InTry → State
handler_body ty name place (in_try ss cs depth C) = expect (kind.Mark sign.OpenBrace) (in_statements (depth + 3) [] (of_handler ty name place (in_try ss cs depth C)))

-- a token behind the type that a handler catches
abbrev pub feed_caught : Token → Ty → ℕ → InTry → Step
feed_caught t ty place T = elim (name_of t) [
  | Some n ↦ leads (expect (kind.Mark sign.CloseParen) (handler_body (Some ty) (Some n) place T))
  | None ↦ on_mark (is_mark sign.CloseParen t.kind) (handler_body (Some ty) None place T)
]

-- a token behind the types of a specification
abbrev pub feed_types : Token → List Ty → List Param → Heading → Step
feed_types t tys ps h =
    if is_mark sign.Comma t.kind then leads (want_listed (of_specification tys ps h))
    else on_mark (is_mark sign.CloseParen t.kind) (have_signature (record { heading = h; parameters = ps; specification = Some (listed tys); in_full = false; initialisers = [] }))

-- a token behind a type of a list
abbrev pub feed_listed : Token → Ty → InListed → Step
feed_listed t ty (of_specification tys ps h) = feed_types t (tys ++ (ty ∷ [])) ps h
feed_listed t ty (of_caught place T) = if is_mark sign.Amp t.kind then leads (have_caught (reference_to false ty) place T) else feed_caught t ty place T
feed_listed t ty (of_const_caught place T) = on_mark (is_mark sign.Amp t.kind) (have_caught (reference_to true ty) place T)

-- the first token of what a handler catches
abbrev pub begin_caught : Token → InTry → Step
begin_caught t T =
    if is_mark sign.Ellipsis t.kind then leads (expect (kind.Mark sign.CloseParen) (handler_body None None t.place T))
    else if is_word keyword.Const t.kind then leads (want_listed (of_const_caught t.place T))
    else begin_listed t (of_caught t.place T)
