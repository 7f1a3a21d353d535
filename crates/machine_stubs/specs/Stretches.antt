-- Stretches of the words of the runtime's own functions: from where one is entered, from behind a runtime call of its own or from where
-- what it called comes back, to its next call or its end.
use Rattle.std.specs.Prelude.{◌≡◌, ℕ, ◌+◌, ◌*◌, ◌%◌, ◌^◌, ◌<◌, ◌≤◌, List, length}
use Rattle.rv64_isa.specs.declared.step.Step.TheVariants.{Ecall}
use Rattle.rv64_isa.specs.State.{State, Part}
use Rattle.rv64_isa.specs.Step.{step_of, x}
use Rattle.cxa_runtime.specs.World.{World}
use Rattle.linear_forms.specs.Linear.{UnitCode}
use Rattle.linear_forms.specs.Stub.{Function}
use Rattle.machine_forms.specs.Registers.{sp, a7}
use Rattle.machine_forms.specs.Shape.{slot_offset, return_offset}
use Rattle.machine_forms.specs.StubCode.{stub_shape, stub_first, stub_routine}
use Rattle.machine_forms.specs.Emitted.{stub_target}
use Rattle.machine_pieces.specs.Memory.{Written, Holds, MayWrite, Apart}
use Rattle.machine_pieces.specs.Standing.{Ground, PiecesAt}
use Rattle.machine_pieces.specs.Keeping.{saved_of}
use Rattle.machine_pieces.specs.Frames.{AddressAt}
use Rattle.machine_pieces.specs.Turning.{SameRuntime}
use Rattle.machine_pieces.specs.UnitAt.{routine_ground, routine_pieces}

-- where things stand for one of the runtime's own functions, in front of a unit
abbrev pub stub_ground : UnitCode → ℕ → Function → Ground
stub_ground u base f = routine_ground u base stub_target (stub_first f) (stub_routine f)

-- its words stand in memory
abbrev pub StubAt : UnitCode → ℕ → Function → List Part → Type 0
StubAt u base f memory = PiecesAt memory (stub_ground u base f) (stub_first f) (routine_pieces (stub_routine f))

-- the address of its k-th word
abbrev pub stub_word : ℕ → Function → ℕ → ℕ
stub_word base f k = base + 4 * (stub_first f + k)

-- how many bytes its frame has, and the first byte of a slot, from sp on
abbrev pub frame_size : Function → ℕ
frame_size f = (stub_shape f).size

abbrev pub slot_at : Function → ℕ → ℕ
slot_at f s = slot_offset (stub_shape f) s

-- bytes of a stack, which may be written
pub record Room (low size : ℕ) (memory : List Part) : Type 0 where
  pub aligned : low % 8 ≡ 0
  pub below : low + size < 2 ^ 63
  pub may : (o n : ℕ) → o + n ≤ size → MayWrite memory (low + o) n

-- memory is as before but for some bytes: what lies apart from them holds what it held, and with each byte the same may be done
pub record Beside (low size : ℕ) (old new : List Part) : Type 0 where
  pub written : Written old new
  pub others : (b n v : ℕ) → Apart low size b n → Holds old b n v → Holds new b n v

-- a return address that a frame holds stays there
abbrev pub BackStays : ℕ → List Part → List Part → Type 0
BackStays stack old new = (back : ℕ) → AddressAt old (stack + return_offset) back → AddressAt new (stack + return_offset) back

-- a hart at the k-th word of one of the runtime's own functions, which stands in memory, with bytes for its frame
pub record Stands (u : UnitCode) (base : ℕ) (f : Function) (k low size : ℕ) (s : State) : Type 0 where
  pub pc : s.pc ≡ stub_word base f k
  pub registers : length s.regs ≡ 32
  pub code : StubAt u base f s.memory
  pub room : Room low size s.memory

-- what a world keeps of an earlier one, where some bytes may have changed
pub record Kept (low size : ℕ) (memory : List Part) (w v : World) : Type 0 where
  pub beside : Beside low size w.hart.memory memory
  pub runtime : SameRuntime w v

-- A stretch ends at the ECALL of a runtime call. Behind it the hart stands at the k-th word with sp where it is given, the registers of kept
-- variables hold what they held, and something holds of it.
pub record AtRuntimeCall (u : UnitCode) (base : ℕ) (f : Function) (number k stack low size : ℕ) (w : World) (P : State → Type 0) (v : World) : Type 0 where
  pub behind : State
  pub calls : step_of v.hart ≡ (Ecall, behind)
  pub asks : x behind a7 ≡ number
  pub stands : Stands u base f k low size behind
  pub pointer : x behind sp ≡ stack
  pub variables : saved_of behind ≡ saved_of w.hart
  pub kept : Kept low size behind.memory w v
  pub holds : P behind

-- A stretch ends at an address, where a function begins that is called, or where the caller goes on.
pub record AtAddress (pc stack low size : ℕ) (w : World) (P : State → Type 0) (v : World) : Type 0 where
  pub there : v.hart.pc ≡ pc
  pub registers : length v.hart.regs ≡ 32
  pub pointer : x v.hart sp ≡ stack
  pub variables : saved_of v.hart ≡ saved_of w.hart
  pub kept : Kept low size v.hart.memory w v
  pub holds : P v.hart
