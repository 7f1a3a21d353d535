-- What operations weigh, in compiled functions and in the runtime's own, and with what they call of the latter.
use Rattle.std.specs.Prelude.{ℕ, ◌+◌, Bool, true, false, List, [], ◌∷◌, Option, Some, None}
use Rattle.region_forms.specs.Form.{leave}
use Rattle.linear_forms.specs.Linear.{LinearOp, plain, pad, unexpected}
use Rattle.linear_forms.specs.Stub.{Function, compiled, CodeOp, linear, StubRow, end_catch_rows, call_unexpected_rows}

-- one of the runtime's own functions, whose operations have weights of their own
abbrev pub is_own : Function → Bool
is_own (compiled n) = false
is_own f = true

-- what operations weigh together
abbrev pub rows_weight : (CodeOp → ℕ) → List StubRow → ℕ
rows_weight weigh [] = 0
rows_weight weigh (x ∷ rows) = weigh x.op + rows_weight weigh rows

-- leaving a handler weighs as much more as the function that does it
abbrev pub leaving : (Bool → CodeOp → ℕ) → Bool → CodeOp → ℕ
leaving weigh own (linear (plain leave)) = weigh own (linear (plain leave)) + rows_weight (weigh true) end_catch_rows
leaving weigh own o = weigh own o

-- and so does what passes an exception that a specification stopped
abbrev pub whole : (Bool → CodeOp → ℕ) → Bool → CodeOp → ℕ
whole weigh own (linear (unexpected o s)) = weigh own (linear (unexpected o s)) + rows_weight (leaving weigh true) call_unexpected_rows
whole weigh own o = leaving weigh own o

-- an operation of a compiled function
abbrev pub whole_linear : (Bool → CodeOp → ℕ) → LinearOp → ℕ
whole_linear weigh o = whole weigh false (linear o)

-- what an operation weighs, if one is there
abbrev pub weight_of : (CodeOp → ℕ) → Option CodeOp → ℕ
weight_of weigh None = 0
weight_of weigh (Some o) = weigh o

-- what it weighs if it is a landing pad
abbrev pub pad_weight : (CodeOp → ℕ) → Option CodeOp → ℕ
pad_weight weigh (Some (linear (pad o s))) = weigh (linear (pad o s))
pad_weight weigh o = 0
