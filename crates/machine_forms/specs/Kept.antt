-- Which variables of a function live in registers for the whole of each call: the first ten int variables, in order of declaration, whose
-- address no operation takes.
use Rattle.std.specs.Prelude.{ℕ, ◌+◌, ◌==◌, ◌&&◌, ◌||◌, not, Bool, true, false, List, [], ◌∷◌, take, if◌then◌else◌}
use Rattle.region_forms.specs.Form.{SlotKind, int_slot, address_slot, object_slot, help_slot, Slot, Root, in_slot, through, in_global, Value, call_value, Argument, int_argument, address_argument, handler_argument, Arguments, no_arguments, argument_then, Op, evaluate, store, bind, call, construct, destroy}
use Rattle.linear_forms.specs.Linear.{LinearOp, plain, FunctionCode}

-- a place begins at a slot
abbrev pub root_is : ℕ → Root → Bool
root_is s (in_slot t) = t == s
root_is s (through t) = false
root_is s (in_global g) = false

abbrev pub argument_takes : ℕ → Argument → Bool
argument_takes s (int_argument v) = false
argument_takes s (address_argument p) = root_is s p.root
argument_takes s (handler_argument n) = false

abbrev pub arguments_take : ℕ → Arguments → Bool
arguments_take s no_arguments = false
arguments_take s (argument_then a args) = argument_takes s a || arguments_take s args

-- calls stand at the top of operations alone, so no other value takes an address
abbrev pub value_takes : ℕ → Value → Bool
value_takes s (call_value c args) = arguments_take s args
value_takes s v = false

abbrev pub op_takes : ℕ → Op → Bool
op_takes s (evaluate v) = value_takes s v
op_takes s (store p v) = value_takes s v
op_takes s (bind t p) = root_is s p.root
op_takes s (call c args) = arguments_take s args
op_takes s (construct p n args) = root_is s p.root || arguments_take s args
op_takes s (destroy p n) = root_is s p.root
op_takes s o = false

abbrev pub linear_takes : ℕ → LinearOp → Bool
linear_takes s (plain o) = op_takes s o
linear_takes s o = false

-- some operation takes the address of a slot
abbrev pub is_taken : ℕ → List LinearOp → Bool
is_taken s [] = false
is_taken s (o ∷ ops) = linear_takes s o || is_taken s ops

abbrev pub is_int : SlotKind → Bool
is_int int_slot = true
is_int address_slot = false
is_int object_slot = false
is_int help_slot = false

-- a slot is that of an int variable, which has 4 bytes
abbrev pub is_one_int : Slot → Bool
is_one_int slot = is_int slot.kind && slot.size == 4

-- the slots from one on that are int variables whose address is not taken
abbrev pub untaken : List LinearOp → ℕ → List Slot → List ℕ
untaken ops s [] = []
untaken ops s (slot ∷ slots) = if is_one_int slot && not (is_taken s ops) then s ∷ untaken ops (s + 1) slots else untaken ops (s + 1) slots

-- the kept variables of a function
unfoldable pub kept_slots : FunctionCode → List ℕ
kept_slots g = take 10 (untaken g.ops 0 g.slots)
