-- A state of the machine for linear code in which a compiled function runs, and a world of the ABI machine that is the same: this is what
-- each operation keeps. Exceptions may be live, travel and be handled, and the runtime's own functions may wait.
use Rattle.std.specs.Prelude.{◌≡◌, ◌⊎◌, ℕ, ◌+◌, ◌^◌, ◌<◌, ◌≤◌, Bool, true, false, List, length, slice_get, Some, None}
use Rattle.rv64_isa.specs.State.{Part}
use Rattle.rv64_isa.specs.Step.{x}
use Rattle.cxa_runtime.specs.World as abi
use Rattle.region_forms.specs.Form.{SlotKind, int_slot, address_slot, object_slot, help_slot, Slot}
use Rattle.region_forms.specs.World.{Base, of_global, of_variable, of_exception, Frame, World}
use Rattle.linear_forms.specs.Linear.{LinearOp, FunctionCode}
use Rattle.linear_forms.specs.Frame.{frame_bytes}
use Rattle.linear_forms.specs.Stub.{compiled}
use Rattle.linear_forms.specs.Activation.{Activation, State}
use Rattle.machine_forms.specs.Registers.{sp}
use Rattle.machine_forms.specs.Bounds.{LinearFits}
use Rattle.machine_forms.specs.Routine.{op_word, routine_words}
use Rattle.machine_pieces.specs.Memory.{MayWrite}
use Rattle.machine_pieces.specs.Keeping.{saved_of}
use Rattle.machine_pieces.specs.Standing.{address, PiecesAt}
use Rattle.machine_pieces.specs.UnitAt.{routine_pieces, whole_words}
use Rattle.machine_stubs.specs.Words.{AllStand}
use Rattle.machine_simulation.specs.Plan.{Plan, function, shape, routine, first_word, setting}
use Rattle.machine_simulation.specs.Extents.{newer, StandApart, IntsInside}
use Rattle.machine_simulation.specs.Calls.{CallStands, CallsWait}
use Rattle.machine_simulation.specs.KeptCalls.{RegistersMatch}
use Rattle.machine_simulation.specs.Exceptions.{addresses_of, exceptions_in, kept_by, destroyed, ExceptionsMatch, PlanHas}

-- the bytes of slots by their kinds
abbrev pub SizeIs : SlotKind → ℕ → Type 0
SizeIs int_slot n = n ≡ 4
SizeIs address_slot n = n ≡ 8
SizeIs object_slot n = Unit {0}
SizeIs help_slot n = n ≡ 8

-- a function's frame has the bytes that its slots take, and is small
pub record FrameIs (g : FunctionCode) : Type 0 where
  pub size : g.frame ≡ frame_bytes g.slots
  pub small : g.frame < 2 ^ 11
  pub slots : (s : ℕ) (slot : Slot) → slice_get g.slots s ≡ Some slot → SizeIs slot.kind slot.size

-- What is asked of a unit: it is below 2^28 words and each function below 2^18, frames are as they are laid out, the values of each operation need no more registers than
-- there are, and the runtime's own functions and all functions of the unit stand in memory.
pub record UnitStands (p : Plan) (memory : List Part) : Type 0 where
  pub few : whole_words p.unit < 2 ^ 28
  pub short : (n : ℕ) → n < length p.unit.functions → routine_words (routine p n) < 2 ^ 18
  pub frames : (n : ℕ) → n < length p.unit.functions → FrameIs (function p n)
  pub registers : (n place : ℕ) (o : LinearOp) → slice_get (function p n).ops place ≡ Some o → LinearFits o
  pub stubs : AllStand p.unit p.base memory
  pub functions : (n : ℕ) → n < length p.unit.functions → PiecesAt memory (setting p n).ground (first_word p n) (routine_pieces (routine p n))

-- the stack may be written
abbrev pub StackMay : List Part → Type 0
StackMay memory = (a n : ℕ) → 0x7000_0000 ≤ a → a + n ≤ 0x7100_0000 → MayWrite memory a n

-- exception objects may be written
abbrev pub ObjectsMay : List Part → Type 0
ObjectsMay memory = (a n : ℕ) → 0x6000_0000 ≤ a → a + n ≤ 0x6040_0000 → MayWrite memory a n

-- calls that are still to come have no ints yet
abbrev pub StillFresh : World → Type 0
StillFresh v = (c s o : ℕ) → v.calls ≤ c → v.memory (record { base = of_variable c s; offset = o }) ≡ None

-- bytes in which no exception object lies
abbrev pub IsAway : (a n : ℕ) → Type 0
IsAway a n = (a + n ≤ 0x6000_0000) ⊎ (0x6040_0000 ≤ a)

abbrev pub is_exception : Base → Bool
is_exception (of_global g) = false
is_exception (of_variable c s) = false
is_exception (of_exception e) = true

-- exception objects may be written; those that are live were made, those that are still to come have no ints yet, and nothing else that is
-- live lies among them. Where an exception was is known after it is freed.
pub record ObjectsStand (p : Plan) (v : World) (memory : List Part) : Type 0 where
  pub may : ObjectsMay memory
  pub made : (e : ℕ) → p.live (of_exception e) ≡ true → e ≤ v.last_number
  pub fresh : (e o : ℕ) → v.last_number < e → v.memory (record { base = of_exception e; offset = o }) ≡ None
  pub away : (b : Base) → p.live b ≡ true → is_exception b ≡ false → IsAway (p.at b) (p.size b)
  pub placed : (e : ℕ) → p.at (of_exception e) + p.size (of_exception e) < 2 ^ 64

-- what is outside, the last number of an exception, whether terminate runs, and what the runtime keeps of exceptions
pub record RuntimeMatches (p : Plan) (fs : List Activation) (v : World) (w : abi.World) : Type 0 where
  pub input : w.input ≡ v.input
  pub replies : w.replies ≡ v.replies
  pub last_number : w.last_number ≡ v.last_number
  pub terminating : w.terminating ≡ v.ending
  pub exceptions : ExceptionsMatch (addresses_of p) (destroyed fs) (exceptions_in v) (kept_by w)
  pub plan : PlanHas p v.live

-- What memory holds where the newest call's frame begins at `stack`: all open calls, and the ints at live addresses, which stand apart.
-- Nothing of a newer call is live.
pub record MemoryMatches (p : Plan) (n : ℕ) (frame : Frame) (fs : List Activation) (v : World) (memory : List Part) (stack back : ℕ) : Type 0 where
  pub top : CallStands p n frame v memory stack back
  pub newest : frame.call < v.calls
  pub waiting : CallsWait p fs v memory (stack + (shape p n).size) back frame.call
  pub apart : StandApart p memory
  pub inside : IntsInside p v
  pub may : StackMay memory
  pub last : (b : Base) → p.live b ≡ true → newer frame.call b ≡ false
  pub fresh : StillFresh v
  pub objects : ObjectsStand p v memory
  pub unit : UnitStands p memory

-- The hart is at the first word of the next operation of the newest call, whose frame begins at sp, with the ints of kept variables in registers.
pub record Matches (p : Plan) (st : State) (w : abi.World) : Type 0 where
  pub number : ℕ
  pub back : ℕ
  pub runs : st.top.function ≡ compiled number
  pub registers : length w.hart.regs ≡ 32
  pub pc : w.hart.pc ≡ address (setting p number).ground (first_word p number + op_word (routine p number) st.top.place)
  pub memory : MemoryMatches p number st.top.frame st.frames st.world w.hart.memory (x w.hart sp) back
  pub kept : RegistersMatch p number st.top.frame st.frames st.world w.hart.memory (x w.hart sp) (saved_of w.hart)
  pub runtime : RuntimeMatches p st.frames st.world w
