-- Marks of slots whose address is taken, made one after the other.
use Rattle.std.specs.Prelude.{ℕ, ◌+◌, ◌&&◌, not, Bool, true, false, List, [], ◌∷◌, slice_set, get_or, if◌then◌else◌}
use Rattle.region_forms.specs.Form.{Slot, Root, in_slot, through, in_global, Value, call_value, Argument, int_argument, address_argument, handler_argument, Arguments, no_arguments, argument_then, Op, evaluate, store, bind, call, construct, destroy}
use Rattle.linear_forms.specs.Linear.{LinearOp, plain}
use Rattle.machine_forms.specs.Kept.{is_one_int}

-- the slot at which a place begins
abbrev pub root_marked : Root → List Bool → List Bool
root_marked (in_slot s) marks = slice_set marks s true
root_marked (through s) marks = marks
root_marked (in_global g) marks = marks

abbrev pub argument_marked : Argument → List Bool → List Bool
argument_marked (int_argument v) marks = marks
argument_marked (address_argument p) marks = root_marked p.root marks
argument_marked (handler_argument n) marks = marks

abbrev pub arguments_marked : Arguments → List Bool → List Bool
arguments_marked no_arguments marks = marks
arguments_marked (argument_then a args) marks = arguments_marked args (argument_marked a marks)

abbrev pub value_marked : Value → List Bool → List Bool
value_marked (call_value c args) marks = arguments_marked args marks
value_marked v marks = marks

abbrev pub op_marked : Op → List Bool → List Bool
op_marked (evaluate v) marks = value_marked v marks
op_marked (store p v) marks = value_marked v marks
op_marked (bind s p) marks = root_marked p.root marks
op_marked (call c args) marks = arguments_marked args marks
op_marked (construct p n args) marks = arguments_marked args (root_marked p.root marks)
op_marked (destroy p n) marks = root_marked p.root marks
op_marked o marks = marks

abbrev pub linear_marked : LinearOp → List Bool → List Bool
linear_marked (plain o) marks = op_marked o marks
linear_marked o marks = marks

abbrev pub all_marked : List LinearOp → List Bool → List Bool
all_marked [] marks = marks
all_marked (o ∷ ops) marks = all_marked ops (linear_marked o marks)

-- the slots from one on that are int variables without a mark
abbrev pub unmarked : List Bool → ℕ → List Slot → List ℕ
unmarked marks s [] = []
unmarked marks s (slot ∷ slots) = if is_one_int slot && not (get_or marks s false) then s ∷ unmarked marks (s + 1) slots else unmarked marks (s + 1) slots
