-- Functions that call nothing, and enter the runtime nowhere.
use Rattle.std.specs.Prelude.{Bool, true, false}
use Rattle.std.specs.List.{list_all}
use Rattle.region_forms.specs.Form.{Value, call_value, Op, evaluate, store, bind}
use Rattle.linear_forms.specs.Linear.{LinearOp, plain, label, jump, jump_zero, return, FunctionCode}

-- a value is computed without a call
abbrev pub value_stays : Value → Bool
value_stays (call_value c args) = false
value_stays v = true

-- an operation is done inside its function
abbrev pub op_stays : Op → Bool
op_stays (evaluate v) = value_stays v
op_stays (store p v) = value_stays v
op_stays (bind s p) = true
op_stays o = false

abbrev pub linear_stays : LinearOp → Bool
linear_stays (plain o) = op_stays o
linear_stays (label l) = true
linear_stays (jump l) = true
linear_stays (jump_zero v l) = true
linear_stays (return result) = true
linear_stays o = false

-- a function all of whose operations are
unfoldable pub is_leaf : FunctionCode → Bool
is_leaf g = list_all linear_stays g.ops
