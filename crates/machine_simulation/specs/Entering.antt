-- A compiled function is called from another.
use Rattle.std.specs.Prelude.{◌≡◌, ℕ, ◌+◌, ◌-◌, ◌<◌, ◌≤◌, ◌==◌, ◌&&◌, not, nat_lt, Bool, true, false, List, [], ◌∷◌, length, take, slice_get, Option, Some, None, is_some, if◌then◌else◌}
use Rattle.cxa_runtime.specs.World as abi
use Rattle.cxa_runtime.specs.Raising.{Image}
use Rattle.region_forms.specs.Form.{SlotKind, int_slot, address_slot, help_slot, Kinds, Place, Argument, int_argument, address_argument, handler_argument, Arguments, no_arguments, argument_then}
use Rattle.region_forms.specs.World.{Base, of_global, of_variable, of_exception, Address, Word, number_word, address_word, Frame, World}
use Rattle.region_forms.specs.WellFormed.{is_variable}
use Rattle.region_forms.specs.Evaluation.{with_some, address_of, words_in}
use Rattle.linear_forms.specs.Linear.{LinearOp}
use Rattle.linear_forms.specs.Frame.{slot_bytes}
use Rattle.linear_forms.specs.Stub.{compiled}
use Rattle.linear_forms.specs.Activation.{Activation, State, goes_to}
use Rattle.linear_forms.specs.Machine.{step}
use Rattle.linear_forms.specs.UnitRun.{code_of}
use Rattle.machine_forms.specs.Registers.{saved_registers}
use Rattle.machine_forms.specs.Shape.{Shape, slot_offset}
use Rattle.machine_forms.specs.KeptCode.{register_of, root_register, saves}
use Rattle.machine_forms.specs.LinearCode.{linear_code}
use Rattle.machine_pieces.specs.Frames.{ValueStands}
use Rattle.machine_pieces.specs.Transfers.{entry_steps}
use Rattle.machine_simulation.specs.Plan.{Plan, function, shape, slot_kinds, setting}
use Rattle.machine_simulation.specs.Extents.{AddressStands}
use Rattle.machine_simulation.specs.Calls.{CallOf, call_of, stack_end, open_bytes}
use Rattle.machine_simulation.specs.Matches.{Matches}
use Rattle.machine_simulation.specs.Operations.{PlaceFits, Matched}
use Rattle.machine_simulation.specs.Asked.{ArgumentsAsked, ObjectAsked}

-- a base is one of the first so many slots of a call
abbrev pub is_slot : (call count : ℕ) → Base → Bool
is_slot c k (of_global g) = false
is_slot c k (of_variable d s) = (d == c) && nat_lt s k
is_slot c k (of_exception e) = false

abbrev pub slot_of : Base → ℕ
slot_of (of_global g) = 0
slot_of (of_variable d s) = s
slot_of (of_exception e) = 0

-- the bytes that a slot takes
abbrev pub slot_room : Shape → ℕ → ℕ
slot_room f s = slot_bytes (take (s + 1) f.slots) - slot_bytes (take s f.slots)

-- a call of a function begins, with this number and a frame from `stack` on; its kept variables are in registers, so no address means their slots
abbrev pub opened : Plan → (function call stack : ℕ) → Plan
opened p n c stack = record p {
  at = λ b. if is_slot c (length (shape p n).slots) b then stack + slot_offset (shape p n) (slot_of b) else p.at b;
  live = λ b. if is_slot c (length (shape p n).slots) b then not (is_some (register_of (shape p n).kept (slot_of b))) else p.live b;
  size = λ b. if is_slot c (length (shape p n).slots) b then slot_room (shape p n) (slot_of b) else p.size b;
  ints = λ b. if is_slot c (length (shape p n).slots) b then is_variable (slot_kinds p n (slot_of b)) else p.ints b;
}

-- what an argument's place or value asks of the frame: the address is of no kept variable
abbrev pub AddressFits : Plan → ℕ → Frame → Place → Type 0
AddressFits p n frame q = PlaceFits p n frame q × (root_register (shape p n) q.root ≡ None) × ((b : Address) → address_of (slot_kinds p n) frame q ≡ Some b → AddressStands p b)

abbrev pub ArgumentStands : Plan → ℕ → Frame → World → Argument → Type 0
ArgumentStands p n frame w (int_argument v) = ValueStands (setting p n) (shape p n) (slot_kinds p n) frame w v
ArgumentStands p n frame w (address_argument q) = AddressFits p n frame q
ArgumentStands p n frame w (handler_argument m) = ⊥

abbrev pub ArgumentsStand : Plan → ℕ → Frame → World → Arguments → Type 0
ArgumentsStand p n frame w no_arguments = Unit {0}
ArgumentsStand p n frame w (argument_then a args) = ArgumentStands p n frame w a × ArgumentsStand p n frame w args

abbrev pub ObjectStands : Plan → ℕ → Frame → Option Place → Type 0
ObjectStands p n frame None = Unit {0}
ObjectStands p n frame (Some q) = AddressFits p n frame q

-- what is passed: the object's address, if there is one, and the words of the arguments
abbrev pub with_object : Option Place → Kinds → Frame → Option (List Word) → Option (List Word)
with_object None kinds frame given = given
with_object (Some q) kinds frame given = with_some (address_of kinds frame q) (λ a. with_some given (λ words. Some (address_word a ∷ words)))

abbrev pub given_to : Kinds → Frame → World → CallOf → Option (List Word)
given_to kinds frame v c = with_object c.object kinds frame (words_in kinds frame v c.arguments)

-- a number goes to an int variable, and an address to a slot for addresses
abbrev pub WordFits : SlotKind → Word → Type 0
WordFits int_slot (number_word z) = Unit {0}
WordFits address_slot (address_word b) = Unit {0}
WordFits help_slot (address_word b) = Unit {0}
WordFits kind word = ⊥

abbrev pub WordsFit : Kinds → ℕ → List Word → Type 0
WordsFit kinds s [] = Unit {0}
WordsFit kinds s (x ∷ given) = WordFits (kinds s) x × WordsFit kinds (s + 1) given

-- how many bytes of the stack are left at least where a function begins: below its frame 4 KiB, or 2 KiB with its frame where it calls nothing
abbrev pub begin_room : (leaf : Bool) → (size : ℕ) → ℕ
begin_room true size = 0x800
begin_room false size = size + 0x1000

-- What is asked where a function is called: places and values of arguments fit; the function is there, and its parameters, which have its first slots, are what it is
-- passed; and the 16 MiB of the stack have room for its frame. All but the last is what well-formed regions ask of a call, and there is room as long
-- as at most 8,190 calls are open.
pub record CallFits (p : Plan) (n : ℕ) (frame : Frame) (w : World) (active : List Activation) (c : CallOf) (given : List Word) : Type 0 where
  pub object : ObjectAsked p n frame c.object
  pub arguments : ArgumentsAsked p n frame w c.arguments
  pub known : c.number < length p.unit.functions
  pub passed : length given ≤ length (shape p c.number).slots
  pub taken : length given ≡ (function p c.number).parameters
  pub words : WordsFit (slot_kinds p c.number) 0 given
  pub room : open_bytes p active + begin_room (shape p c.number).leaf (shape p c.number).size ≤ 0x100_0000

-- where the frame of a function begins that is called behind these open calls
abbrev pub frame_for : Plan → ℕ → List Activation → ℕ
frame_for p n active = stack_end - (open_bytes p active + (shape p n).size)

-- the turns of a function's beginning: its frame is taken, and registers are saved for its kept variables
abbrev pub entry_turns : Plan → ℕ → ℕ
entry_turns p n = entry_steps (shape p n).leaf + length (saves (shape p n) (function p n).parameters saved_registers (shape p n).kept)

-- A call of one compiled function by another is matched by at most as many turns as the operation has words and those of the function's beginning. What is
-- passed stands in the first slots of the new call, whose frame begins below that of the caller.
abbrev pub CallsRun : Type 0
CallsRun = (image : Image) (p : Plan) (n : ℕ) (st next : State) (w : abi.World) (o : LinearOp) (c : CallOf) (given : List Word) → Matches p st w → st.top.function ≡ compiled n →
    slice_get (function p n).ops st.top.place ≡ Some o → call_of o ≡ Some c → given_to (slot_kinds p n) st.top.frame st.world c ≡ Some given →
    CallFits p n st.top.frame st.world (st.top ∷ st.frames) c given → step (code_of p.unit) st ≡ goes_to next →
    Matched image (length (linear_code (shape p n) o) + entry_turns p c.number) w [] (λ v. Matches (opened p c.number st.world.calls (frame_for p c.number (st.top ∷ st.frames))) next v)
