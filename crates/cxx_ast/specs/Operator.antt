-- The operators: their marks, and how tightly they bind (ISO/IEC 14882:2003, 5.3.1, 5.6, 5.7, 5.9, 5.10, 5.14, 5.15).
use Rattle.std.specs.Prelude.{ℕ}
use Rattle.cxx_ast.specs.declared.expression.UnaryOp.{UnaryOp}
use Rattle.cxx_ast.specs.declared.expression.UnaryOp.TheVariants.{Minus, Not}
use Rattle.cxx_ast.specs.declared.expression.BinaryOp.{BinaryOp}
use Rattle.cxx_ast.specs.declared.expression.BinaryOp.TheVariants.{Add, Subtract, Multiply, Divide, Remainder, Less, Greater, LessEqual, GreaterEqual, Equal, NotEqual, And, Or}
use Rattle.cxx_ast.specs.declared.mark.Mark.{Mark}
use Rattle.cxx_ast.specs.declared.mark.Mark.TheVariants as mark
use Rattle.cxx_ast.specs.Plain.{Expression, binary}

-- the mark of an operator before its operand
abbrev pub unary_mark : UnaryOp → Mark
unary_mark Minus = mark.Minus
unary_mark Not = mark.Exclamation

-- the mark of an operator between its operands
abbrev pub binary_mark : BinaryOp → Mark
binary_mark Add = mark.Plus
binary_mark Subtract = mark.Minus
binary_mark Multiply = mark.Star
binary_mark Divide = mark.Slash
binary_mark Remainder = mark.Percent
binary_mark Less = mark.Less
binary_mark Greater = mark.Greater
binary_mark LessEqual = mark.LessEqual
binary_mark GreaterEqual = mark.GreaterEqual
binary_mark Equal = mark.Equal
binary_mark NotEqual = mark.NotEqual
binary_mark And = mark.AmpAmp
binary_mark Or = mark.BarBar

-- how tightly an operator binds: `||` least, `* / %` most
abbrev pub binary_level : BinaryOp → ℕ
binary_level Or = 1
binary_level And = 2
binary_level Equal = 3
binary_level NotEqual = 3
binary_level Less = 4
binary_level Greater = 4
binary_level LessEqual = 4
binary_level GreaterEqual = 4
binary_level Add = 5
binary_level Subtract = 5
binary_level Multiply = 6
binary_level Divide = 6
binary_level Remainder = 6

-- how tightly an expression holds together: as its outermost operator binds, and all else tighter
abbrev pub level : Expression → ℕ
level (binary op a b) = binary_level op
level _ = 7
