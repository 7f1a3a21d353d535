-- call_unexpected leaves its two handlers, one after the other.
use Rattle.std.specs.Prelude.{◌≡◌, ◌⊎◌, ℕ, ◌+◌, List, ◌∷◌, length}
use Rattle.rv64_isa.specs.Step.{x}
use Rattle.cxa_runtime.specs.World as abi
use Rattle.region_forms.specs.Caught.{Entry}
use Rattle.linear_forms.specs.Stub.{end_catch, call_unexpected}
use Rattle.linear_forms.specs.Activation.{State}
use Rattle.machine_forms.specs.Registers.{ra, sp}
use Rattle.machine_pieces.specs.Keeping.{saved_of}
use Rattle.machine_stubs.specs.Stretches.{stub_word}
use Rattle.machine_stubs.specs.CallUnexpected.{thrown_slot}
use Rattle.machine_simulation.specs.Plan.{Plan}
use Rattle.machine_simulation.specs.StubCalls.{KeepsFlying}
use Rattle.machine_simulation.specs.Matches.{RuntimeMatches}
use Rattle.stub_landings.specs.Rests.{StubMemory, StubRegisters, LeavesBoth, LeavesOn}
use Rattle.own_ends.specs.Callers.{CalledBy}

-- at its first or its second `leave`, and the word behind that one's call
abbrev pub IsLeaving : (place k : ℕ) → Type 0
IsLeaving place k = ((place ≡ 15) × (k ≡ 55)) ⊎ ((place ≡ 16) × (k ≡ 57))

-- end_catch is at its first word, called at one of them
pub record CatchBegins (p : Plan) (place k : ℕ) (st : State) (w : abi.World) : Type 0 where
  pub which : IsLeaving place k
  pub back : ℕ
  pub runs : st.top.function ≡ call_unexpected
  pub there : st.top.place ≡ place
  pub registers : length w.hart.regs ≡ 32
  pub pc : w.hart.pc ≡ stub_word p.base end_catch 0
  pub returns : x w.hart ra ≡ stub_word p.base call_unexpected k
  pub memory : StubMemory p call_unexpected st.frames st.world w.hart.memory (x w.hart sp) back
  pub runtime : RuntimeMatches p (st.top ∷ st.frames) st.world w
  pub thrown : KeepsFlying p (st.top.frame.slots 4) st.world w.hart.memory (x w.hart sp + thrown_slot)
  pub kept : StubRegisters p call_unexpected st.frames st.world w.hart.memory (x w.hart sp) (saved_of w.hart)

-- it is at one of them, or end_catch is called there
abbrev pub Leaving : Plan → (place k : ℕ) → State → abi.World → Type 0
Leaving p place k st w = (LeavesBoth p st w × (place ≡ 15) × (k ≡ 55)) ⊎ (LeavesOn p 55 16 st w × (place ≡ 16) × (k ≡ 57)) ⊎ CatchBegins p place k st w

-- and a compiled function called it, and handlers are open: the newest is that of an entry
pub record AtOwnLeave (p : Plan) (place k : ℕ) (st : State) (w : abi.World) (y : Entry) (ys : List Entry) : Type 0 where
  pub leaves : Leaving p place k st w
  pub called : CalledBy st.frames
  pub caught : st.world.caught ≡ y ∷ ys
