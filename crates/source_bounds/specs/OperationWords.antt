-- How many words an operation has at most, wherever its slots stand. A call of one of the runtime's own functions counts as 257, as in the
-- bounds of units.
use Rattle.std.specs.Prelude.{ℕ, ◌+◌}
use Rattle.region_forms.specs.Form.{Value, number, load, unary, binary, call_value, Argument, int_argument, address_argument, handler_argument, Arguments, no_arguments, argument_then, Op, evaluate, store, bind, call, construct, destroy, make, throw, rethrow, enter, leave}
use Rattle.linear_forms.specs.Linear.{LinearOp, plain, label, jump, jump_zero, pad, jump_filter, free, resume, unexpected, return}

abbrev mutual
  -- a value, computed or, if it is a call, given
  pub value_words : Value → ℕ
  value_words (number v) = 2
  value_words (load p) = 2
  value_words (unary o v) = value_words v + 1
  value_words (binary o a b) = value_words a + value_words b + 3
  value_words (call_value c args) = arguments_words args + 3

  pub argument_words : Argument → ℕ
  argument_words (int_argument v) = value_words v
  argument_words (address_argument p) = 2
  argument_words (handler_argument n) = 2

  -- each argument is passed by one word more
  pub arguments_words : Arguments → ℕ
  arguments_words no_arguments = 0
  arguments_words (argument_then a args) = argument_words a + 1 + arguments_words args

-- an operation of regions
abbrev pub op_words : Op → ℕ
op_words (evaluate v) = value_words v
op_words (store p v) = value_words v + 2
op_words (bind s p) = 3
op_words (call c args) = arguments_words args + 2
op_words (construct p n args) = arguments_words args + 5
op_words (destroy p n) = 5
op_words (make s) = 3
op_words (throw s t d) = 7
op_words rethrow = 2
op_words (enter s) = 3
op_words leave = 258

-- an operation of linear code; at a return ten registers may get back what they held
abbrev pub linear_words : LinearOp → ℕ
linear_words (plain o) = op_words o
linear_words (label l) = 0
linear_words (jump l) = 1
linear_words (jump_zero v l) = value_words v + 2
linear_words (pad o s) = 2
linear_words (jump_filter s n l) = 5
linear_words (free s) = 3
linear_words (resume s) = 3
linear_words (unexpected o s) = 262
linear_words (return result) = 14
