-- What a token is to the grammar.
use Rattle.std.specs.Prelude.{ℕ, ℤ, pos, Bool, false, List, [], ◌∷◌, bytes_eq, Option, Some, None, if◌then◌else◌}
use denote.Enum.Bare.{sameb}
use Rattle.cxx_ast.specs.declared.expression.UnaryOp.{UnaryOp}
use Rattle.cxx_ast.specs.declared.expression.UnaryOp.TheVariants.{Minus, Not}
use Rattle.cxx_ast.specs.declared.expression.BinaryOp.{BinaryOp}
use Rattle.cxx_ast.specs.declared.expression.BinaryOp.TheVariants.{Add, Subtract, Multiply, Divide, Remainder, Less, Greater, LessEqual, GreaterEqual, Equal, NotEqual, And, Or}
use Rattle.cxx_ast.specs.declared.keyword.Keyword.{Keyword}
use Rattle.cxx_ast.specs.declared.mark.Mark.{Mark}
use Rattle.cxx_ast.specs.declared.mark.Mark.TheVariants as sign
use Rattle.cxx_ast.specs.declared.name.Name.{Name}
use Rattle.cxx_ast.specs.declared.name.Bound.TheVariants.{Free}
use Rattle.cxx_ast.specs.declared.token.Token.{Token}
use Rattle.cxx_ast.specs.declared.token.TokenKind.{TokenKind}
use Rattle.cxx_ast.specs.declared.token.TokenKind.TheVariants as kind
use Rattle.cxx_ast.specs.contracts.keyword.Keyword.{the_type as keywords}
use Rattle.cxx_ast.specs.contracts.mark.Mark.{the_type as marks}
use Rattle.cxx_ast.specs.Operator.{binary_level}
use Rattle.cxx_ast.specs.Spelling.{is_bad_exception}

-- a token of this mark
abbrev pub is_mark : Mark → TokenKind → Bool
is_mark m (kind.Mark n) = sameb marks n m
is_mark m _ = false

-- a token of this reserved word
abbrev pub is_word : Keyword → TokenKind → Bool
is_word w (kind.Word v) = sameb keywords v w
is_word w _ = false

-- a token of this name
abbrev pub is_name : List ℕ → TokenKind → Bool
is_name text (kind.Name other) = bytes_eq other text
is_name text _ = false

-- a token of this kind, which is no literal
abbrev pub is_kind : TokenKind → TokenKind → Bool
is_kind (kind.Mark m) k = is_mark m k
is_kind (kind.Word w) k = is_word w k
is_kind (kind.Name text) k = is_name text k
is_kind (kind.Number n) k = false

-- the name that a token of a kind is, at its place
abbrev pub name_at : TokenKind → ℕ → Option Name
name_at (kind.Name text) place = Some (record { text = text; place = place; bound = Free })
name_at _ place = None

-- the name that a token is
abbrev pub name_of : Token → Option Name
name_of t = name_at t.kind t.place

-- the name of a class that a token is; `std::bad_exception` is not one name
abbrev pub plain_name : Option Name → Option Name
plain_name None = None
plain_name (Some n) = if is_bad_exception n then None else Some n

abbrev pub class_of : Token → Option Name
class_of t = plain_name (name_of t)

-- the value of a literal, which has no sign
abbrev pub literal_of : TokenKind → Option ℤ
literal_of (kind.Number (pos n)) = Some (pos n)
literal_of _ = None

-- the operator that a mark is between operands
abbrev pub operator_of_mark : Mark → Option BinaryOp
operator_of_mark sign.Plus = Some Add
operator_of_mark sign.Minus = Some Subtract
operator_of_mark sign.Star = Some Multiply
operator_of_mark sign.Slash = Some Divide
operator_of_mark sign.Percent = Some Remainder
operator_of_mark sign.Less = Some Less
operator_of_mark sign.Greater = Some Greater
operator_of_mark sign.LessEqual = Some LessEqual
operator_of_mark sign.GreaterEqual = Some GreaterEqual
operator_of_mark sign.Equal = Some Equal
operator_of_mark sign.NotEqual = Some NotEqual
operator_of_mark sign.AmpAmp = Some And
operator_of_mark sign.BarBar = Some Or
operator_of_mark _ = None

-- the operator that a token is between operands
abbrev pub operator_of : TokenKind → Option BinaryOp
operator_of (kind.Mark m) = operator_of_mark m
operator_of _ = None

-- the operator that a mark is before an operand
abbrev pub prefix_of_mark : Mark → Option UnaryOp
prefix_of_mark sign.Minus = Some Minus
prefix_of_mark sign.Exclamation = Some Not
prefix_of_mark _ = None

-- the operator that a token is before an operand
abbrev pub prefix_of : TokenKind → Option UnaryOp
prefix_of (kind.Mark m) = prefix_of_mark m
prefix_of _ = None

-- how tightly the operator binds that an option has, and 0 for none
abbrev pub level_of : Option BinaryOp → ℕ
level_of None = 0
level_of (Some op) = binary_level op

-- how tightly the operator binds that tokens begin with, and 0 where they begin with none
abbrev pub first_level : List Token → ℕ
first_level [] = 0
first_level (t ∷ ts) = level_of (operator_of t.kind)
