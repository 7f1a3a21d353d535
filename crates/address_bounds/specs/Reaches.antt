-- Operations that read and write ints inside what their addresses begin at, and pass addresses behind which lie as many bytes as what is
-- called needs.
use Rattle.std.specs.Prelude.{⊤, ℕ, ◌+◌, ◌≤◌, List, Option, Some, None}
use Rattle.cxx_ast.specs.Limits.{most_class_bytes}
use Rattle.region_forms.specs.Form.{Slot, Callee, defined, builtin, Value, number, load, unary, binary, call_value, Argument, int_argument, address_argument, handler_argument, Arguments, no_arguments, argument_then, Op, evaluate, store, bind, call, construct, destroy, make, throw, rethrow, enter, leave, Region, RegionList, Clauses}
use Rattle.linear_forms.specs.Linear.{LinearOp, plain, jump_zero}
use Rattle.address_bounds.specs.Rooms.{Reach, HasRoom}
use Rattle.address_bounds.specs.Everywhere.{Said, RegionAll, RegionsAll, ClausesAll}

-- what each function needs behind the addresses in its slots
abbrev pub Needs : Type 0
Needs = ℕ → Reach

-- the bytes of an exception object (profile)
abbrev pub exception_bytes : ℕ
exception_bytes = 4096

-- a built-in function is passed no address
abbrev pub callee_needs : Needs → Callee → Reach
callee_needs needs (defined n) = needs n
callee_needs needs (builtin b) = λ s. 0

abbrev mutual
  -- where a function has this reach and these slots
  pub ValueReaches : Needs → Reach → List Slot → Value → Type 0
  ValueReaches needs reach slots (number v) = ⊤
  ValueReaches needs reach slots (load q) = HasRoom reach slots q 4
  ValueReaches needs reach slots (unary o v) = ValueReaches needs reach slots v
  ValueReaches needs reach slots (binary o a b) = ValueReaches needs reach slots a × ValueReaches needs reach slots b
  ValueReaches needs reach slots (call_value c args) = ArgumentsReach needs reach slots (callee_needs needs c) 0 args

  pub ArgumentReaches : Needs → Reach → List Slot → ℕ → Argument → Type 0
  ArgumentReaches needs reach slots n (int_argument v) = ValueReaches needs reach slots v
  ArgumentReaches needs reach slots n (address_argument q) = HasRoom reach slots q n
  ArgumentReaches needs reach slots n (handler_argument m) = ⊤

  -- arguments for the slots from the i-th on
  pub ArgumentsReach : Needs → Reach → List Slot → Reach → ℕ → Arguments → Type 0
  ArgumentsReach needs reach slots wants i no_arguments = ⊤
  ArgumentsReach needs reach slots wants i (argument_then a args) = ArgumentReaches needs reach slots (wants i) a × ArgumentsReach needs reach slots wants (i + 1) args

-- the destructor of an exception object
abbrev pub DestructorFits : Needs → Option ℕ → Type 0
DestructorFits needs None = ⊤
DestructorFits needs (Some d) = needs d 0 ≤ exception_bytes

-- an operation
abbrev pub OpReaches : Needs → Reach → List Slot → Op → Type 0
OpReaches needs reach slots (evaluate v) = ValueReaches needs reach slots v
OpReaches needs reach slots (store q v) = HasRoom reach slots q 4 × ValueReaches needs reach slots v
OpReaches needs reach slots (bind s q) = HasRoom reach slots q (reach s)
OpReaches needs reach slots (call c args) = ArgumentsReach needs reach slots (callee_needs needs c) 0 args
OpReaches needs reach slots (construct q n args) = HasRoom reach slots q (needs n 0) × ArgumentsReach needs reach slots (needs n) 1 args
OpReaches needs reach slots (destroy q n) = HasRoom reach slots q (needs n 0)
OpReaches needs reach slots (make s) = reach s ≤ exception_bytes
OpReaches needs reach slots (throw s t d) = DestructorFits needs d
OpReaches needs reach slots rethrow = ⊤
OpReaches needs reach slots (enter s) = ⊤
OpReaches needs reach slots leave = ⊤

-- what is said of a region: all of its operations reach inside, and a handler's slot holds the address of an exception object
abbrev pub reaches : Needs → Reach → List Slot → Said
reaches needs reach slots = record {
  operation = OpReaches needs reach slots;
  test = ValueReaches needs reach slots;
  caught = λ s. reach s ≤ most_class_bytes;
  freed = λ s. ⊤;
}

abbrev pub RegionReaches : Needs → Reach → List Slot → Region → Type 0
RegionReaches needs reach slots r = RegionAll (reaches needs reach slots) r

abbrev pub RegionsReach : Needs → Reach → List Slot → RegionList → Type 0
RegionsReach needs reach slots rs = RegionsAll (reaches needs reach slots) rs

abbrev pub ClausesReach : Needs → Reach → List Slot → Clauses → Type 0
ClausesReach needs reach slots cs = ClausesAll (reaches needs reach slots) cs

-- an operation of linear code
abbrev pub LinearReaches : Needs → Reach → List Slot → LinearOp → Type 0
LinearReaches needs reach slots (plain o) = OpReaches needs reach slots o
LinearReaches needs reach slots (jump_zero v l) = ValueReaches needs reach slots v
LinearReaches needs reach slots o = ⊤
