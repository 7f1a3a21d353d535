-- Declarations as they are written. A tree forgets four things: how a class's data members and functions stand among each other, whether
-- `public` is written, how a global's first value is, and whether `(true)` stands behind `noexcept`, which a function's number of tokens tells.
use Rattle.std.specs.Prelude.{ℤ, pos, neg_ℤ, Bool, true, false, ◌==◌, List, [], ◌∷◌, length, codes, Option, Some, None}
use Rattle.cxx_ast.specs.declared.name.Name.{Name}
use Rattle.cxx_ast.specs.declared.types.Param.{Param}
use Rattle.cxx_ast.specs.declared.declaration.FuncKind.{FuncKind}
use Rattle.cxx_ast.specs.declared.declaration.FuncKind.TheVariants.{Plain, Method, Constructor, Destructor}
use Rattle.cxx_ast.specs.declared.types.Ty.{Ty}
use Rattle.cxx_ast.specs.declared.token.TokenKind.TheVariants as kind
use Rattle.cxx_ast.specs.declared.keyword.Keyword.{Keyword}
use Rattle.cxx_ast.specs.declared.keyword.Keyword.TheVariants as keyword
use Rattle.cxx_ast.specs.declared.mark.Mark.TheVariants as sign
use Rattle.cxx_ast.specs.Plain.{Specification, listed, noexcept, Function, Initialiser, Statements, Declaration, class_declaration, global_declaration, function_declaration}
use Rattle.cxx_ast.specs.Piece.{anywhere, placed, named, word, mark}
use Rattle.cxx_ast.specs.Spelling.{Spelling, spell_type, spell_param, spell_arguments, spell_statements}

-- a member of a class
pub data Member : Type 0 where
  data_member : Param → Member
  function_member : Function → Member

-- the first value of a global: none, or a literal, behind a minus where the flag is set
pub data Start : Type 0 where
  no_start : Start
  start : Bool → ℤ → Start

-- a class with its base, and whether `public` stands before that; a global; a function
pub data Written : Type 0 where
  written_class : Name → Bool → Option Name → List Member → Written
  written_global : Name → Start → Written
  written_function : Function → Written

-- the data members in order
abbrev pub data_members : List Member → List Param
data_members [] = []
data_members (data_member p ∷ ms) = p ∷ data_members ms
data_members (function_member f ∷ ms) = data_members ms

-- the functions in order
abbrev pub functions : List Member → List Function
functions [] = []
functions (data_member p ∷ ms) = functions ms
functions (function_member f ∷ ms) = f ∷ functions ms

-- the first value
abbrev pub start_value : Start → ℤ
start_value no_start = pos 0
start_value (start false n) = n
start_value (start true n) = neg_ℤ n

-- the tree of a declaration
abbrev pub declared : Written → Declaration
declared (written_class n is_public base ms) = class_declaration (record { name = n; base = base; members = data_members ms; functions = functions ms })
declared (written_global n s) = global_declaration n (start_value s)
declared (written_function f) = function_declaration f

-- a comma before each parameter
abbrev pub spell_more_params : List Param → Spelling
spell_more_params [] after = after
spell_more_params (p ∷ ps) after = mark sign.Comma ∷ spell_param p (spell_more_params ps after)

-- parameters
abbrev pub spell_params : List Param → Spelling
spell_params [] after = after
spell_params (p ∷ ps) after = spell_param p (spell_more_params ps after)

-- a comma before each type
abbrev pub spell_more_types : List Ty → Spelling
spell_more_types [] after = after
spell_more_types (t ∷ ts) after = mark sign.Comma ∷ spell_type t (spell_more_types ts after)

-- types with commas between them
abbrev pub spell_types : List Ty → Spelling
spell_types [] after = after
spell_types (t ∷ ts) after = spell_type t (spell_more_types ts after)

-- a word in parentheses
abbrev pub spell_in_parentheses : Keyword → Spelling
spell_in_parentheses k after = mark sign.OpenParen ∷ word k ∷ mark sign.CloseParen ∷ after

-- what stands behind `noexcept`: that it is true may be left out
abbrev pub spell_truth : (in_full is_true : Bool) → Spelling
spell_truth in_full false after = spell_in_parentheses keyword.False after
spell_truth true true after = spell_in_parentheses keyword.True after
spell_truth false true after = after

-- an exception specification, where there is one; `noexcept` is a name to the lexer
abbrev pub spell_specification : Bool → Option Specification → Spelling
spell_specification in_full None after = after
spell_specification in_full (Some (listed ts)) after = word keyword.Throw ∷ mark sign.OpenParen ∷ spell_types ts (mark sign.CloseParen ∷ after)
spell_specification in_full (Some (noexcept place b)) after = placed (kind.Name (codes "noexcept")) place ∷ spell_truth in_full b after

-- an initialiser
abbrev pub spell_initialiser : Initialiser → Spelling
spell_initialiser i after = named i.name ∷ mark sign.OpenParen ∷ spell_arguments i.arguments (mark sign.CloseParen ∷ after)

-- a comma before each initialiser
abbrev pub spell_more_initialisers : List Initialiser → Spelling
spell_more_initialisers [] after = after
spell_more_initialisers (i ∷ is) after = mark sign.Comma ∷ spell_initialiser i (spell_more_initialisers is after)

-- initialisers behind a colon, where there are some
abbrev pub spell_initialisers : List Initialiser → Spelling
spell_initialisers [] after = after
spell_initialisers (i ∷ is) after = mark sign.Colon ∷ spell_initialiser i (spell_more_initialisers is after)

-- a body, or the end of a declaration that has none
abbrev pub spell_body : Option Statements → Spelling
spell_body None after = mark sign.Semicolon ∷ after
spell_body (Some ss) after = mark sign.OpenBrace ∷ spell_statements ss (mark sign.CloseBrace ∷ after)

-- the result of a function, which constructors and destructors have not
abbrev pub spell_result : FuncKind → Ty → Spelling
spell_result Plain result after = spell_type result after
spell_result Method result after = spell_type result after
spell_result Constructor result after = after
spell_result Destructor result after = after

-- a function from its result, or from its name where it has none, to its end, with a `noexcept` written in full or not
abbrev pub spell_function_as : Bool → Function → Spelling
spell_function_as in_full f after =
    spell_result f.kind f.result (named f.name ∷ mark sign.OpenParen ∷ spell_params f.parameters (mark sign.CloseParen ∷
    spell_specification in_full f.specification (spell_initialisers f.initialisers (spell_body f.body after))))

-- it has the tokens of one whose `noexcept` is written in full
unfoldable pub in_full : Function → Bool
in_full f = f.tokens == length (spell_function_as true f [])

-- so it is written
abbrev pub spell_function : Function → Spelling
spell_function f after = spell_function_as (in_full f) f after

-- the `~` of a destructor
abbrev pub spell_tilde : FuncKind → Spelling
spell_tilde Destructor after = mark sign.Tilde ∷ after
spell_tilde _ after = after

-- members
abbrev pub spell_members : List Member → Spelling
spell_members [] after = after
spell_members (data_member p ∷ ms) after = spell_param p (mark sign.Semicolon ∷ spell_members ms after)
spell_members (function_member f ∷ ms) after = spell_tilde f.kind (spell_function f (spell_members ms after))

-- `public`, or nothing
abbrev pub spell_public : Bool → Spelling
spell_public true after = word keyword.Public ∷ after
spell_public false after = after

-- the base, where there is one
abbrev pub spell_base : Bool → Option Name → Spelling
spell_base is_public None after = after
spell_base is_public (Some n) after = mark sign.Colon ∷ spell_public is_public (named n ∷ after)

-- a minus, or nothing
abbrev pub spell_minus : Bool → Spelling
spell_minus true after = mark sign.Minus ∷ after
spell_minus false after = after

-- the first value, where it is written
abbrev pub spell_start_value : Start → Spelling
spell_start_value no_start after = after
spell_start_value (start minus n) after = mark sign.Assign ∷ spell_minus minus (anywhere (kind.Number n) ∷ after)

-- a declaration
abbrev pub spell_declaration : Written → Spelling
spell_declaration (written_class n is_public base ms) after =
    word keyword.Struct ∷ named n ∷ spell_base is_public base (mark sign.OpenBrace ∷ spell_members ms (mark sign.CloseBrace ∷ mark sign.Semicolon ∷ after))
spell_declaration (written_global n s) after = word keyword.Int ∷ named n ∷ spell_start_value s (mark sign.Semicolon ∷ after)
spell_declaration (written_function f) after = spell_function f after

-- declarations
abbrev pub spell_declarations : List Written → Spelling
spell_declarations [] after = after
spell_declarations (d ∷ ds) after = spell_declaration d (spell_declarations ds after)
