-- The arithmetic of int.
use Rattle.std.specs.Prelude.{zero, ◌-◌, ◌^◌, ℤ, pos, negsuc, ◌+ℤ◌, ◌-ℤ◌, ◌*ℤ◌, neg_ℤ, int_lt, int_le, int_div, int_rem, Bool, true, false, not, ◌&&◌, Option, Some, None, if◌then◌else◌}
use Rattle.cxx_ast.specs.declared.expression.UnaryOp.{UnaryOp}
use Rattle.cxx_ast.specs.declared.expression.UnaryOp.TheVariants.{Minus, Not}
use Rattle.cxx_ast.specs.declared.expression.BinaryOp.{BinaryOp}
use Rattle.cxx_ast.specs.declared.expression.BinaryOp.TheVariants.{Add, Subtract, Multiply, Divide, Remainder, Less, Greater, LessEqual, GreaterEqual, Equal, NotEqual, And, Or}
use Rattle.meaning_forms.specs.Outcome.{Action, pure, stop, undefined}

-- a number is an int of 32 bits
abbrev pub fits_int : ℤ → Bool
fits_int z = int_le (negsuc (2 ^ 31 - 1)) z && int_le z (pos (2 ^ 31 - 1))

-- overflow is undefined
abbrev pub in_range : ℤ → Action ℤ
in_range z = if fits_int z then pure z else stop undefined

-- a number is 0
abbrev pub is_zero : ℤ → Bool
is_zero (pos zero) = true
is_zero _ = false

-- a truth is 1 or 0
abbrev pub truth : Bool → ℤ
truth true = pos 1
truth false = pos 0

-- two numbers are the same
abbrev pub int_equal : ℤ → ℤ → Bool
int_equal x y = int_le x y && int_le y x

-- division by 0 is undefined, and so is one whose quotient is no int; the last number is the value
abbrev pub dividing : ℤ → ℤ → ℤ → Action ℤ
dividing x y v = if is_zero y then stop undefined else if fits_int (int_div x y) then pure v else stop undefined

-- `-` and `!`
abbrev pub unary_value : UnaryOp → ℤ → Action ℤ
unary_value Minus x = in_range (neg_ℤ x)
unary_value Not x = pure (truth (is_zero x))

-- an operator on two values: division truncates toward zero; `&&` and `||` come here where the right side decides
abbrev pub binary_value : BinaryOp → ℤ → ℤ → Action ℤ
binary_value Add x y = in_range (x +ℤ y)
binary_value Subtract x y = in_range (x -ℤ y)
binary_value Multiply x y = in_range (x *ℤ y)
binary_value Divide x y = dividing x y (int_div x y)
binary_value Remainder x y = dividing x y (int_rem x y)
binary_value Less x y = pure (truth (int_lt x y))
binary_value Greater x y = pure (truth (int_lt y x))
binary_value LessEqual x y = pure (truth (int_le x y))
binary_value GreaterEqual x y = pure (truth (int_le y x))
binary_value Equal x y = pure (truth (int_equal x y))
binary_value NotEqual x y = pure (truth (not (int_equal x y)))
binary_value And x y = pure (truth (not (is_zero y)))
binary_value Or x y = pure (truth (not (is_zero y)))

-- the value of `&&` or `||` where the left side decides it
abbrev pub decided : BinaryOp → ℤ → Option ℤ
decided And x = if is_zero x then Some (pos 0) else None
decided Or x = if is_zero x then None else Some (pos 1)
decided _ x = None
