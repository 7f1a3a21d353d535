-- The code of operations of regions.
use Rattle.std.specs.Prelude.{ℕ, pos, List, [], ◌∷◌, ◌++◌, Option, Some, None}
use Rattle.region_forms.specs.Form.{Place, Value, number, load, unary, binary, call_value, Arguments, no_arguments, Op, evaluate, store, bind, call, construct, destroy, make, throw, rethrow, enter, leave}
use Rattle.linear_forms.specs.Stub.{compiled, end_catch}
use Rattle.machine_forms.specs.Registers.{a0, a1, a2, register}
use Rattle.machine_forms.specs.Piece.{Piece, instruction, entry, type_record}
use Rattle.machine_forms.specs.Shape.{Shape}
use Rattle.machine_forms.specs.KeptCode.{copied, root_register}
use Rattle.machine_forms.specs.PlaceCode.{slot_loaded, slot_stored, target_address, place_address, place_stored, number_set}
use Rattle.machine_forms.specs.ValueCode.{read_in, brought, value_code, operand}
use Rattle.machine_forms.specs.CallCode.{passed, arguments_passed, function_called, call_code, value_given}
use Rattle.machine_forms.specs.RuntimeCall.{runtime_call, allocate_call, throw_call, begin_catch_call, rethrow_call}

-- a value is computed for its effects alone: it has none unless it is a call
abbrev pub dropped_code : Shape → Value → List Piece
dropped_code f (call_value c args) = call_code f c args
dropped_code f v = []

-- a value, at whose top a call may stand, and the register in which it is then; that of a call is in the first one
abbrev pub whole_value : Shape → Value → List Piece
whole_value f (call_value c args) = call_code f c args ++ value_given c
whole_value f v = brought (operand f v) 0

abbrev pub whole_register : Shape → Value → ℕ
whole_register f v = read_in (operand f v) 0

-- A kept variable gets a value. An operator or a number writes its register itself; all else comes from another register, so that no load
-- writes it but at a function's end.
abbrev pub value_kept : Shape → ℕ → Value → List Piece
value_kept f rd (number v) = value_code f rd 0 (number v)
value_kept f rd (unary o v) = value_code f rd 0 (unary o v)
value_kept f rd (binary o a b) = value_code f rd 0 (binary o a b)
value_kept f rd v = whole_value f v ++ instruction (copied rd (whole_register f v)) ∷ []

-- a value is written to a place: to the register of a kept variable, or else to memory
abbrev pub value_stored : Shape → Option ℕ → Place → Value → List Piece
value_stored f (Some rd) p v = value_kept f rd v
value_stored f None p v = whole_value f v ++ place_stored f (whole_register f v) (register 1) p

-- a function is called with the address of a place, and with arguments behind it
abbrev pub called_at : Shape → Place → ℕ → Arguments → List Piece
called_at f p n args = place_address f a0 p ++ passed a0 0 ∷ arguments_passed f 1 args ++ function_called (compiled n)

-- the destructor of an exception object, or 0
abbrev pub destructor_set : ℕ → Option ℕ → List Piece
destructor_set rd None = number_set rd (pos 0)
destructor_set rd (Some d) = target_address rd (entry (compiled d))

-- the code of an operation
abbrev pub op_code : Shape → Op → List Piece
op_code f (evaluate v) = dropped_code f v
op_code f (store p v) = value_stored f (root_register f p.root) p v
op_code f (bind s p) = place_address f a0 p ++ slot_stored f a0 s ∷ []
op_code f (call c args) = call_code f c args
op_code f (construct p n args) = called_at f p n args
op_code f (destroy p n) = called_at f p n no_arguments
op_code f (make s) = runtime_call allocate_call ++ slot_stored f a0 s ∷ []
op_code f (throw s t d) =
    slot_loaded f a0 s ∷ target_address a1 (type_record t) ++ destructor_set a2 d ++ runtime_call throw_call
op_code f rethrow = runtime_call rethrow_call
op_code f (enter s) = slot_loaded f a0 s ∷ runtime_call begin_catch_call
op_code f leave = function_called end_catch
