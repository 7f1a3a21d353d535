-- A hart inside one of the runtime's own functions, which has its frame.
use Rattle.std.specs.Prelude.{⊤, ◌≡◌, ℕ, ◌+◌, ◌<◌, ◌≤◌, List, length}
use Rattle.rv64_isa.specs.declared.step.Step.TheVariants.{Ecall}
use Rattle.rv64_isa.specs.State as hart
use Rattle.rv64_isa.specs.Step.{step_of, x}
use Rattle.elf_image.specs.Clean.{CleanImage}
use Rattle.cxa_runtime.specs.World as abi
use Rattle.region_forms.specs.World.{World}
use Rattle.linear_forms.specs.Stub.{Function, compiled, end_catch, terminating, call_unexpected}
use Rattle.linear_forms.specs.Activation.{Activation, State}
use Rattle.machine_forms.specs.Registers.{sp, a7}
use Rattle.machine_forms.specs.Routine.{op_word}
use Rattle.machine_forms.specs.StubCode.{stub_routine}
use Rattle.machine_pieces.specs.Keeping.{saved_of}
use Rattle.machine_stubs.specs.Stretches.{stub_word}
use Rattle.machine_simulation.specs.Plan.{Plan}
use Rattle.machine_simulation.specs.Matches.{RuntimeMatches}
use Rattle.machine_raises.specs.Stacks.{IsRunning}
use Rattle.stub_landings.specs.Rests.{StubMemory, StubRegisters}

-- one of the runtime's own functions
abbrev pub IsOwn : Function → Type 0
IsOwn (compiled n) = ⊥
IsOwn end_catch = ⊤
IsOwn terminating = ⊤
IsOwn call_unexpected = ⊤

-- an address behind a word of an operation of one of them
pub record GoesOnInOwn (p : Plan) (f : Function) (place ip : ℕ) : Type 0 where
  pub word : ℕ
  pub framed : 3 ≤ word
  pub first : op_word (stub_routine f) place < word
  pub last : word ≤ op_word (stub_routine f) (place + 1)
  pub is : ip ≡ stub_word p.base f word

-- a hart that goes on inside an operation of one of them, whose frame begins at sp, above the calls that wait, with their registers
pub record InOwn (p : Plan) (f : Function) (back : ℕ) (a : Activation) (fs : List Activation) (v : World) (s : hart.State) : Type 0 where
  pub own : IsOwn f
  pub runs : a.function ≡ f
  pub registers : length s.regs ≡ 32
  pub goes_on : GoesOnInOwn p f a.place s.pc
  pub memory : StubMemory p f fs v s.memory (x s sp) back
  pub kept : StubRegisters p f fs v s.memory (x s sp) (saved_of s)

-- A hart at the ECALL of a runtime call of one of them, and behind it. Of exceptions whose destructors run the runtime has those that calls below
-- it wait for.
pub record AtOwnCall (p : Plan) (i : CleanImage) (number : ℕ) (f : Function) (st : State) (w : abi.World) (behind : hart.State) : Type 0 where
  pub calls : step_of w.hart ≡ (Ecall, behind)
  pub asks : x behind a7 ≡ number
  pub running : IsRunning p i behind
  pub back : ℕ
  pub inside : InOwn p f back st.top st.frames st.world behind
  pub runtime : RuntimeMatches p st.frames st.world w
