-- States between steps: a compiled function is at an operation, or one of the runtime's own functions is behind a landing pad or leaves its handlers.
use Rattle.std.specs.Prelude.{◌≡◌, ◌⊎◌, ℕ, ◌+◌, ℤ, pos, false, true, List, ◌∷◌, length}
use Rattle.rv64_isa.specs.State.{Part}
use Rattle.rv64_isa.specs.Step.{x}
use Rattle.cxa_runtime.specs.World as abi
use Rattle.cxa_runtime.specs.World.{a0, a1}
use Rattle.region_forms.specs.World.{Base, number_word, World}
use Rattle.linear_forms.specs.Stub.{Function, end_catch, call_unexpected}
use Rattle.linear_forms.specs.Activation.{Activation, State}
use Rattle.flight_homes.specs.Nest.{newest_call}
use Rattle.machine_forms.specs.Registers.{sp}
use Rattle.machine_pieces.specs.Numbers.{IsInt, extended}
use Rattle.machine_pieces.specs.Frames.{IntAt, AddressAt}
use Rattle.machine_pieces.specs.Keeping.{saved_of, AreSmall}
use Rattle.machine_stubs.specs.Stretches.{stub_word, frame_size}
use Rattle.machine_stubs.specs.EndCatch.{object_slot}
use Rattle.machine_stubs.specs.CallUnexpected.{stopped_slot, list_slot, table_slot, thrown_slot}
use Rattle.machine_simulation.specs.Plan.{Plan}
use Rattle.machine_simulation.specs.Extents.{newer, StandApart, IntsInside}
use Rattle.machine_simulation.specs.Calls.{CallsWait}
use Rattle.machine_simulation.specs.StubCalls.{StubStands, KeepsException, KeepsFlying}
use Rattle.machine_simulation.specs.KeptCalls.{KeptCalls}
use Rattle.machine_simulation.specs.Matches.{StackMay, StillFresh, ObjectsStand, UnitStands, RuntimeMatches, Matches}
use Rattle.machine_raises.specs.Pads.{PadGets}

-- What memory holds where the frame of one of the runtime's own functions begins at `stack`, as for a compiled one: all open calls, and the ints
-- at live addresses, which stand apart. Nothing of a call that is newer than the newest compiled one is live.
pub record StubMemory (p : Plan) (f : Function) (fs : List Activation) (v : World) (memory : List Part) (stack back : ℕ) : Type 0 where
  pub stands : StubStands p f memory stack back
  pub waiting : CallsWait p fs v memory (stack + frame_size f) back v.calls
  pub apart : StandApart p memory
  pub inside : IntsInside p v
  pub may : StackMay memory
  pub last : (b : Base) → p.live b ≡ true → newer (newest_call fs) b ≡ false
  pub fresh : StillFresh v
  pub objects : ObjectsStand p v memory
  pub unit : UnitStands p memory

-- The registers of kept variables while one of them runs: it leaves them to the calls that wait.
pub record StubRegisters (p : Plan) (f : Function) (fs : List Activation) (v : World) (memory : List Part) (stack : ℕ) (regs : List ℕ) : Type 0 where
  pub small : AreSmall regs
  pub waiting : KeptCalls p fs v memory (stack + frame_size f) regs

-- the hart is at the k-th word of one of them, in such memory, with such registers
pub record StubRests (p : Plan) (f : Function) (k : ℕ) (st : State) (w : abi.World) : Type 0 where
  pub back : ℕ
  pub runs : st.top.function ≡ f
  pub registers : length w.hart.regs ≡ 32
  pub pc : w.hart.pc ≡ stub_word p.base f k
  pub memory : StubMemory p f st.frames st.world w.hart.memory (x w.hart sp) back
  pub kept : StubRegisters p f st.frames st.world w.hart.memory (x w.hart sp) (saved_of w.hart)
  pub runtime : RuntimeMatches p (st.top ∷ st.frames) st.world w

-- end_catch, behind its pad, is about to free the object: the hart is at the pad's first word, with what the pad gets
pub record FreesOnTheWay (p : Plan) (st : State) (w : abi.World) : Type 0 where
  pub rests : StubRests p end_catch 20 st w
  pub place : st.top.place ≡ 5
  pub gets : PadGets p st.world (st.top.frame.slots 2) (x w.hart a0)
  pub object : KeepsException p (st.top.frame.slots 0) st.world w.hart.memory (x w.hart sp + object_slot)

-- what call_unexpected keeps of the exception that was stopped
pub record KeepsStopped (p : Plan) (st : State) (w : abi.World) : Type 0 where
  pub stopped : KeepsException p (st.top.frame.slots 0) st.world w.hart.memory (x w.hart sp + stopped_slot)
  pub selector : ℤ
  pub selector_is : st.top.frame.slots 1 ≡ number_word selector
  pub list : IntAt w.hart.memory (x w.hart sp + list_slot) selector
  pub owner : ℕ
  pub owner_is : st.top.frame.slots 2 ≡ number_word (pos owner)
  pub table : AddressAt w.hart.memory (x w.hart sp + table_slot) (p.tables owner)

-- call_unexpected, behind its first pad: what came out of the unexpected handler is entered, or a forced unwind leaves the exception that was
-- stopped
pub record ChecksThrown (p : Plan) (st : State) (w : abi.World) : Type 0 where
  pub rests : StubRests p call_unexpected 13 st w
  pub place : st.top.place ≡ 4
  pub gets : PadGets p st.world (st.top.frame.slots 4) (x w.hart a0)
  pub filter : ℤ
  pub int : IsInt filter
  pub filter_is : (st.top.frame.slots 5 ≡ number_word filter) × (x w.hart a1 ≡ extended filter)
  pub kept : KeepsStopped p st w

-- call_unexpected, behind its second pad: it leaves both handlers
pub record LeavesBoth (p : Plan) (st : State) (w : abi.World) : Type 0 where
  pub rests : StubRests p call_unexpected 51 st w
  pub place : st.top.place ≡ 15
  pub gets : PadGets p st.world (st.top.frame.slots 4) (x w.hart a0)

-- it leaves the second, or goes on with what is on its way
pub record LeavesOn (p : Plan) (k place : ℕ) (st : State) (w : abi.World) : Type 0 where
  pub rests : StubRests p call_unexpected k st w
  pub there : st.top.place ≡ place
  pub thrown : KeepsFlying p (st.top.frame.slots 4) st.world w.hart.memory (x w.hart sp + thrown_slot)

-- a state between steps
abbrev pub Rests : Plan → State → abi.World → Type 0
Rests p st w = Matches p st w ⊎ FreesOnTheWay p st w ⊎ ChecksThrown p st w ⊎ LeavesBoth p st w ⊎ LeavesOn p 55 16 st w ⊎ LeavesOn p 57 17 st w
