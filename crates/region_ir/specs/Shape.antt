-- The shape that the regions of every program have: calls stand at the top of operations alone, a barrier holds one operation, and each body
-- that a cleanup, handlers, an exception specification or a loop has is regions in order.
use Rattle.std.specs.Prelude.{Bool, true, false, ◌&&◌, nat_le, List, [], ◌∷◌}
use Rattle.region_forms.specs.Form.{Value, number, load, unary, binary, call_value, Argument, int_argument, address_argument, handler_argument, Arguments, no_arguments, argument_then, Op, evaluate, store, call, construct, Region, seq, op, branch, loop, protect, catch, limit, barrier, leave_region, RegionList, no_regions, region_then, Clauses, no_clauses, clause_then, RegionFunction, Regions}

-- a value makes no call
abbrev pub is_pure : Value → Bool
is_pure (number v) = true
is_pure (load p) = true
is_pure (unary o v) = is_pure v
is_pure (binary o a b) = is_pure a && is_pure b
is_pure (call_value c args) = false

-- an argument makes no call
abbrev pub is_pure_argument : Argument → Bool
is_pure_argument (int_argument v) = is_pure v
is_pure_argument (address_argument p) = true
is_pure_argument (handler_argument n) = true

-- no argument makes a call
abbrev pub are_pure : Arguments → Bool
are_pure no_arguments = true
are_pure (argument_then a args) = is_pure_argument a && are_pure args

-- a value makes no call, or is one whose arguments make none
abbrev pub is_pure_or_call : Value → Bool
is_pure_or_call (call_value c args) = are_pure args
is_pure_or_call v = is_pure v

-- a call is an operation of its own, or the whole value that is stored
abbrev pub op_has_shape : Op → Bool
op_has_shape (evaluate v) = is_pure v
op_has_shape (store p v) = is_pure_or_call v
op_has_shape (call c args) = are_pure args
op_has_shape (construct p n args) = are_pure args
op_has_shape o = true

-- one operation and nothing else
abbrev pub is_lone_op : Region → Bool
is_lone_op (op o) = op_has_shape o
is_lone_op r = false

abbrev mutual
  -- a test makes no call, and an exit leaves one region at least
  pub has_shape : Region → Bool
  has_shape (seq rs) = all_have_shape rs
  has_shape (op o) = op_has_shape o
  has_shape (branch v a b) = is_pure v && (has_shape a && has_shape b)
  has_shape (loop v a) = is_pure v && is_row a
  has_shape (protect a c) = is_row a
  has_shape (catch a cs) = is_row a && clauses_have_shape cs
  has_shape (limit a types) = is_row a
  has_shape (barrier a) = is_lone_op a
  has_shape (leave_region n) = nat_le 1 n

  -- regions in order
  pub is_row : Region → Bool
  is_row (seq rs) = all_have_shape rs
  is_row r = false

  pub all_have_shape : RegionList → Bool
  all_have_shape no_regions = true
  all_have_shape (region_then a rs) = has_shape a && all_have_shape rs

  pub clauses_have_shape : Clauses → Bool
  clauses_have_shape no_clauses = true
  clauses_have_shape (clause_then t s a cs) = is_row a && clauses_have_shape cs

-- each function's body is regions in order
abbrev pub functions_have_shape : List RegionFunction → Bool
functions_have_shape [] = true
functions_have_shape (f ∷ fs) = is_row f.body && functions_have_shape fs

-- a program's regions
abbrev pub all_shaped : Regions → Bool
all_shaped r = functions_have_shape r.functions
