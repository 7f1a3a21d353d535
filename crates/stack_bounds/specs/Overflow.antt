-- A function finds no room for its frame, and the run ends.
use Rattle.std.specs.Prelude.{◌≡◌, ℕ, ◌+◌, ◌%◌, ◌<◌, ◌≤◌, false, List, [], ◌∷◌, length, slice_get, Some}
use Rattle.rv64_isa.specs.Step.{x}
use Rattle.cxa_runtime.specs.declared.effect.End.TheVariants as ends
use Rattle.cxa_runtime.specs.Raising.{Image}
use Rattle.cxa_runtime.specs.Run.{run}
use Rattle.cxa_runtime.specs.World as abi
use Rattle.region_forms.specs.World.{Word, Frame, World}
use Rattle.linear_forms.specs.Linear.{LinearOp}
use Rattle.linear_forms.specs.Stub.{compiled}
use Rattle.linear_forms.specs.Activation.{Activation, State}
use Rattle.machine_forms.specs.Registers.{sp}
use Rattle.machine_forms.specs.LinearCode.{linear_code}
use Rattle.machine_pieces.specs.Standing.{address}
use Rattle.machine_simulation.specs.Plan.{Plan, function, shape, slot_kinds, first_word, setting}
use Rattle.machine_simulation.specs.Asked.{ObjectAsked, ArgumentsAsked}
use Rattle.machine_simulation.specs.Calls.{CallOf, call_of, open_bytes}
use Rattle.machine_simulation.specs.Entering.{given_to, WordsFit}
use Rattle.machine_simulation.specs.Matches.{StackMay, UnitStands, Matches}

-- a run shows nothing more, and ends for want of stack
pub record RunOverflows (image : Image) (pick : ℕ → ℕ) (n : ℕ) (w : abi.World) : Type 0 where
  pub items : (run image pick n w).items ≡ []
  pub end : (run image pick n w).end ≡ ends.Stack

-- The hart is at the first word of a function that looks for room, since it calls something, and below sp the stack has bytes for its frame, but
-- not above its lowest 4 KiB.
pub record FindsNoRoom (p : Plan) (m : ℕ) (w : abi.World) : Type 0 where
  pub known : m < length p.unit.functions
  pub looks : (shape p m).leaf ≡ false
  pub registers : length w.hart.regs ≡ 32
  pub pc : w.hart.pc ≡ address (setting p m).ground (first_word p m)
  pub aligned : x w.hart sp % 8 ≡ 0
  pub above : 0x7000_0000 + (shape p m).size ≤ x w.hart sp
  pub short : x w.hart sp < 0x7000_1000 + (shape p m).size
  pub below : x w.hart sp ≤ 0x7100_0000
  pub unit : UnitStands p w.hart.memory
  pub may : StackMay w.hart.memory

-- Six turns later the run is over.
abbrev pub FunctionsOverflow : Type 0
FunctionsOverflow = (image : Image) (pick : ℕ → ℕ) (n : ℕ) (p : Plan) (m : ℕ) (w : abi.World) → FindsNoRoom p m w → 6 ≤ n → RunOverflows image pick n w

-- What is asked where a function is called that looks for room and for which the stack has none: but for the room, as of every other call.
pub record CallLacksRoom (p : Plan) (n : ℕ) (frame : Frame) (w : World) (active : List Activation) (c : CallOf) (given : List Word) : Type 0 where
  pub object : ObjectAsked p n frame c.object
  pub arguments : ArgumentsAsked p n frame w c.arguments
  pub known : c.number < length p.unit.functions
  pub passed : length given ≤ length (shape p c.number).slots
  pub words : WordsFit (slot_kinds p c.number) 0 given
  pub looks : (shape p c.number).leaf ≡ false
  pub lacks : 0x100_0000 < open_bytes p active + (shape p c.number).size + 0x1000

-- Where a state matches whose operation calls such a function, the run ends within as many turns as the operation has words and six beside them.
abbrev pub CallsOverflow : Type 0
CallsOverflow = (image : Image) (pick : ℕ → ℕ) (k : ℕ) (p : Plan) (n : ℕ) (st : State) (w : abi.World) (o : LinearOp) (c : CallOf) (given : List Word) → Matches p st w → st.top.function ≡ compiled n →
    slice_get (function p n).ops st.top.place ≡ Some o → call_of o ≡ Some c → given_to (slot_kinds p n) st.top.frame st.world c ≡ Some given →
    CallLacksRoom p n st.top.frame st.world (st.top ∷ st.frames) c given → length (linear_code (shape p n) o) + 6 ≤ k → RunOverflows image pick k w
