-- How large a value is.
use Rattle.std.proofs.Common.{ℕ, ◌+◌}
use Rattle.region_forms.specs.Form.{Value, number, load, unary, binary, call_value}

-- a measure that falls from a value to its operands, with room for calls in between
abbrev pub weight : Value → ℕ
weight (number v) = 0
weight (load p) = 0
weight (unary o v) = weight v + 2
weight (binary o a b) = weight a + weight b + 5
weight (call_value c args) = 0
