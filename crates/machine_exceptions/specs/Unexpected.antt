-- A specification stops an exception: call_unexpected is called.
use Rattle.std.specs.Prelude.{◌≡◌, ℕ, ◌+◌, ◌-◌, ◌^◌, ◌<◌, ℤ, [], ◌∷◌, length, slice_get, Some}
use Rattle.rv64_isa.specs.Step.{x}
use Rattle.cxa_runtime.specs.World as abi
use Rattle.cxa_runtime.specs.Raising.{Image}
use Rattle.region_forms.specs.World.{of_exception, number_word, Exception}
use Rattle.linear_forms.specs.Linear.{unexpected}
use Rattle.linear_forms.specs.Stub.{compiled, call_unexpected}
use Rattle.linear_forms.specs.Activation.{State, goes_to, stub_frame, function_word}
use Rattle.linear_forms.specs.Machine.{step}
use Rattle.linear_forms.specs.UnitRun.{code_of}
use Rattle.machine_forms.specs.Registers.{ra, sp}
use Rattle.machine_forms.specs.LinearCode.{linear_code}
use Rattle.machine_forms.specs.Routine.{op_word}
use Rattle.machine_pieces.specs.Standing.{address}
use Rattle.machine_pieces.specs.Frames.{IntAt, AddressAt}
use Rattle.machine_pieces.specs.Turning.{Reaches}
use Rattle.machine_pieces.specs.Keeping.{saved_of}
use Rattle.machine_stubs.specs.Stretches.{stub_word}
use Rattle.machine_stubs.specs.CallUnexpected.{frame, stopped_slot, list_slot}
use Rattle.machine_simulation.specs.Plan.{Plan, function, shape, routine, first_word, setting}
use Rattle.machine_simulation.specs.Exceptions.{live_in}
use Rattle.machine_simulation.specs.Matches.{MemoryMatches, RuntimeMatches, Matches}
use Rattle.machine_simulation.specs.Objects.{HoldsObject}
use Rattle.machine_simulation.specs.KeptCalls.{RegistersMatch}
use Rattle.machine_exceptions.specs.Makes.{IsWordSlot}

-- a call of a compiled function is at the operation, and the slots hold a live exception and the selector of the list that stops it
pub record AtUnexpected (p : Plan) (n o s e : ℕ) (z : ℤ) (st : State) : Type 0 where
  pub runs : st.top.function ≡ compiled n
  pub there : slice_get (function p n).ops st.top.place ≡ Some (unexpected o s)
  pub object : HoldsObject p n st.top.frame o e
  pub word : IsWordSlot p n s
  pub selector : st.top.frame.slots s ≡ number_word z
  pub exception : Exception
  pub live : live_in st.world.live e ≡ Some exception

-- the state at the first operation of call_unexpected
abbrev pub in_unexpected : (n o s : ℕ) → State → State
in_unexpected n o s st = record {
  top = record { function = call_unexpected; place = 0; frame = stub_frame (st.top.frame.slots o) (st.top.frame.slots s) (function_word (Some n)) };
  frames = st.top ∷ st.frames;
  world = st.world;
}

-- The hart is at the first word of call_unexpected, and the slots of its frame, which will be below sp, hold the object's address and the selector;
-- the frames of the calls, the registers of kept variables, and what the runtime keeps, are
-- those that they were. It returns to the word behind the operation.
pub record CallsUnexpected (p : Plan) (n o s e back : ℕ) (z : ℤ) (st : State) (v : abi.World) : Type 0 where
  pub pc : v.hart.pc ≡ stub_word p.base call_unexpected 0
  pub registers : length v.hart.regs ≡ 32
  pub returns : x v.hart ra < 2 ^ 64
  pub returns_to : x v.hart ra ≡ address (setting p n).ground (first_word p n + op_word (routine p n) st.top.place + length (linear_code (shape p n) (unexpected o s)))
  pub memory : MemoryMatches p n st.top.frame st.frames st.world v.hart.memory (x v.hart sp) back
  pub kept : RegistersMatch p n st.top.frame st.frames st.world v.hart.memory (x v.hart sp) (saved_of v.hart)
  pub runtime : RuntimeMatches p st.frames st.world v
  pub stopped : AddressAt v.hart.memory (x v.hart sp - frame + stopped_slot) (p.at (of_exception e))
  pub list : IntAt v.hart.memory (x v.hart sp - frame + list_slot) z

-- One step calls call_unexpected, which is matched by as many turns as the operation has words.
abbrev pub UnexpectedCalled : Type 0
UnexpectedCalled = (image : Image) (p : Plan) (n o s e : ℕ) (z : ℤ) (st : State) (w : abi.World) → (h : Matches p st w) → AtUnexpected p n o s e z st →
    (step (code_of p.unit) st ≡ goes_to (in_unexpected n o s st)) × Reaches image (length (linear_code (shape p n) (unexpected o s))) w [] (CallsUnexpected p n o s e h.back z st)
