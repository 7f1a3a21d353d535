-- The marks: the operators and punctuators (ISO/IEC 14882:2003, 2.12) without `#`, `##` and digraphs.
use Rattle.std.specs.Prelude.{ℕ, List, [], ◌∷◌, codes}
use Rattle.cxx_ast.specs.declared.mark.Mark.{Mark}
use Rattle.cxx_ast.specs.declared.mark.Mark.TheVariants as mark

-- the bytes of a mark
unfoldable pub spelling : Mark → List ℕ
spelling mark.Ellipsis = codes "..."
spelling mark.ArrowStar = codes "->*"
spelling mark.ShiftLeftAssign = codes "<<="
spelling mark.ShiftRightAssign = codes ">>="
spelling mark.ColonColon = codes "::"
spelling mark.Equal = codes "=="
spelling mark.NotEqual = codes "!="
spelling mark.LessEqual = codes "<="
spelling mark.GreaterEqual = codes ">="
spelling mark.AmpAmp = codes "&&"
spelling mark.BarBar = codes "||"
spelling mark.PlusPlus = codes "++"
spelling mark.MinusMinus = codes "--"
spelling mark.PlusAssign = codes "+="
spelling mark.MinusAssign = codes "-="
spelling mark.StarAssign = codes "*="
spelling mark.SlashAssign = codes "/="
spelling mark.PercentAssign = codes "%="
spelling mark.Arrow = codes "->"
spelling mark.DotStar = codes ".*"
spelling mark.ShiftLeft = codes "<<"
spelling mark.ShiftRight = codes ">>"
spelling mark.AmpAssign = codes "&="
spelling mark.BarAssign = codes "|="
spelling mark.CaretAssign = codes "^="
spelling mark.OpenBrace = codes "{"
spelling mark.CloseBrace = codes "}"
spelling mark.OpenParen = codes "("
spelling mark.CloseParen = codes ")"
spelling mark.Semicolon = codes ";"
spelling mark.Comma = codes ","
spelling mark.Colon = codes ":"
spelling mark.Assign = codes "="
spelling mark.Less = codes "<"
spelling mark.Greater = codes ">"
spelling mark.Plus = codes "+"
spelling mark.Minus = codes "-"
spelling mark.Star = codes "*"
spelling mark.Slash = codes "/"
spelling mark.Percent = codes "%"
spelling mark.Exclamation = codes "!"
spelling mark.Amp = codes "&"
spelling mark.Tilde = codes "~"
spelling mark.Dot = codes "."
spelling mark.Bar = codes "|"
spelling mark.Caret = codes "^"
spelling mark.Question = codes "?"
spelling mark.OpenBracket = codes "["
spelling mark.CloseBracket = codes "]"

-- the marks, longer ones first
abbrev pub marks : List Mark
marks =
    mark.Ellipsis ∷
    mark.ArrowStar ∷
    mark.ShiftLeftAssign ∷
    mark.ShiftRightAssign ∷
    mark.ColonColon ∷
    mark.Equal ∷
    mark.NotEqual ∷
    mark.LessEqual ∷
    mark.GreaterEqual ∷
    mark.AmpAmp ∷
    mark.BarBar ∷
    mark.PlusPlus ∷
    mark.MinusMinus ∷
    mark.PlusAssign ∷
    mark.MinusAssign ∷
    mark.StarAssign ∷
    mark.SlashAssign ∷
    mark.PercentAssign ∷
    mark.Arrow ∷
    mark.DotStar ∷
    mark.ShiftLeft ∷
    mark.ShiftRight ∷
    mark.AmpAssign ∷
    mark.BarAssign ∷
    mark.CaretAssign ∷
    mark.OpenBrace ∷
    mark.CloseBrace ∷
    mark.OpenParen ∷
    mark.CloseParen ∷
    mark.Semicolon ∷
    mark.Comma ∷
    mark.Colon ∷
    mark.Assign ∷
    mark.Less ∷
    mark.Greater ∷
    mark.Plus ∷
    mark.Minus ∷
    mark.Star ∷
    mark.Slash ∷
    mark.Percent ∷
    mark.Exclamation ∷
    mark.Amp ∷
    mark.Tilde ∷
    mark.Dot ∷
    mark.Bar ∷
    mark.Caret ∷
    mark.Question ∷
    mark.OpenBracket ∷
    mark.CloseBracket ∷
    []
