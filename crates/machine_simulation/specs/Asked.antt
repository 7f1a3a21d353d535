-- What is asked of a program where an operation is made. Well-formed regions give all of it but three things: that an exception whose
-- ints are read or written is live, that an int behind an address lies inside what the address begins at, as the types of references say, and at a
-- multiple of 4, as the layout of classes has it. That every global and variable whose address is used is live need not be asked.
use Rattle.std.specs.Prelude.{◌≡◌, ℕ, ◌+◌, ◌%◌, ◌^◌, ◌<◌, ◌≤◌, ℤ, true, false, length, Option, Some, None}
use Rattle.meaning_forms.specs.Arithmetic.{decided}
use Rattle.region_forms.specs.Form.{Root, in_slot, through, in_global, Place, Value, number, load, unary, binary, call_value, Argument, int_argument, address_argument, handler_argument, Arguments, no_arguments, argument_then, store, bind}
use Rattle.region_forms.specs.World.{of_exception, Address, address_in, Frame, World}
use Rattle.region_forms.specs.WellFormed.{is_variable}
use Rattle.region_forms.specs.Evaluation.{Location, in_memory, in_frame, locate, address_of, value_in}
use Rattle.linear_forms.specs.Linear.{LinearOp, plain, jump_zero}
use Rattle.machine_forms.specs.Shape.{slot_offset}
use Rattle.machine_forms.specs.KeptCode.{register_of}
use Rattle.machine_pieces.specs.Numbers.{IsInt}
use Rattle.machine_pieces.specs.Frames.{SlotFits}
use Rattle.machine_simulation.specs.Plan.{Plan, shape, slot_kinds}

-- offsets are those of a slot, a member or a global
abbrev pub RootAsked : Plan → ℕ → Frame → Root → ℕ → Type 0
RootAsked p n frame (in_slot s) o =
    (s < length (shape p n).slots) × (slot_offset (shape p n) s + o < 2 ^ 11) × SlotFits (slot_kinds p n s) o × ((k : ℕ) → register_of (shape p n).kept s ≡ Some k → o ≡ 0)
RootAsked p n frame (through s) o =
    (s < length (shape p n).slots) × (slot_offset (shape p n) s < 2 ^ 11) × (o < 2 ^ 11)
RootAsked p n frame (in_global g) o = (g < length p.unit.globals) × (o ≡ 0)

-- an exception is live whose address a slot holds
abbrev pub LiveAsked : Plan → Frame → Root → Type 0
LiveAsked p frame (in_slot s) = Unit {0}
LiveAsked p frame (through s) = (e k : ℕ) → address_in (frame.slots s) ≡ Some (record { base = of_exception e; offset = k }) → p.live (of_exception e) ≡ true
LiveAsked p frame (in_global g) = Unit {0}

-- of the right side of `&&` and `||` something is asked only where the left one does not decide
abbrev pub ValueAsked : Plan → ℕ → Frame → World → Value → Type 0
ValueAsked p n frame w (number v) = IsInt v
ValueAsked p n frame w (load q) = RootAsked p n frame q.root q.offset × LiveAsked p frame q.root
ValueAsked p n frame w (unary o v) = ValueAsked p n frame w v
ValueAsked p n frame w (binary o a b) =
    ValueAsked p n frame w a × ((x : ℤ) → value_in (slot_kinds p n) frame w a ≡ Some x → decided o x ≡ None → ValueAsked p n frame w b)
ValueAsked p n frame w (call_value c args) = Unit {0}

-- an int may be written there
abbrev pub LocationAsked : Plan → ℕ → Location → Type 0
LocationAsked p n (in_memory a) = (p.ints a.base ≡ true) × (a.offset + 4 ≤ p.size a.base) × (a.offset % 4 ≡ 0)
LocationAsked p n (in_frame s) = (s < length (shape p n).slots) × (is_variable (slot_kinds p n s) ≡ false)

abbrev pub TargetAsked : Plan → ℕ → Frame → Place → Type 0
TargetAsked p n frame q = RootAsked p n frame q.root q.offset × ((l : Location) → locate (slot_kinds p n) frame q ≡ Some l → LocationAsked p n l) × LiveAsked p frame q.root

abbrev pub WantedAsked : Plan → ℕ → Frame → Option Place → Type 0
WantedAsked p n frame None = Unit {0}
WantedAsked p n frame (Some q) = TargetAsked p n frame q

-- an address lies inside what it begins at
abbrev pub AddressAsked : Plan → ℕ → Frame → Place → Type 0
AddressAsked p n frame q = RootAsked p n frame q.root q.offset × ((b : Address) → address_of (slot_kinds p n) frame q ≡ Some b → b.offset ≤ p.size b.base)

abbrev pub ArgumentAsked : Plan → ℕ → Frame → World → Argument → Type 0
ArgumentAsked p n frame w (int_argument v) = ValueAsked p n frame w v
ArgumentAsked p n frame w (address_argument q) = AddressAsked p n frame q
ArgumentAsked p n frame w (handler_argument m) = ⊥

abbrev pub ArgumentsAsked : Plan → ℕ → Frame → World → Arguments → Type 0
ArgumentsAsked p n frame w no_arguments = Unit {0}
ArgumentsAsked p n frame w (argument_then a args) = ArgumentAsked p n frame w a × ArgumentsAsked p n frame w args

abbrev pub ObjectAsked : Plan → ℕ → Frame → Option Place → Type 0
ObjectAsked p n frame None = Unit {0}
ObjectAsked p n frame (Some q) = AddressAsked p n frame q

-- of an operation that makes no call
abbrev pub OperationAsked : Plan → ℕ → Frame → World → LinearOp → Type 0
OperationAsked p n frame w (plain (store q v)) = ValueAsked p n frame w v × TargetAsked p n frame q
OperationAsked p n frame w (plain (bind s q)) =
    AddressAsked p n frame q × (s < length (shape p n).slots) × (is_variable (slot_kinds p n s) ≡ false) × (slot_offset (shape p n) s < 2 ^ 11)
OperationAsked p n frame w (jump_zero v l) = ValueAsked p n frame w v
OperationAsked p n frame w o = Unit {0}
