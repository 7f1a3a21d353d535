-- What the calls of laws state.
use Rattle.std.specs.Prelude.{◌≡◌, ℕ, ◌+◌, ◌^◌, ◌<◌, ◌≤◌, ℤ, true, false, List, [], length, slice_get, Some}
use Rattle.rv64_isa.specs.State.{Part, with_value}
use Rattle.cxa_runtime.specs.World as abi
use Rattle.cxa_runtime.specs.Raising.{Image}
use Rattle.region_forms.specs.World.{Base, of_variable, Address, Frame, World, nothing, address_word, with_slot}
use Rattle.region_forms.specs.WellFormed.{is_variable}
use Rattle.region_forms.specs.Evaluation.{Location}
use Rattle.region_forms.specs.Effect.{goes, stored_at}
use Rattle.linear_forms.specs.Linear.{LinearOp}
use Rattle.linear_forms.specs.Stub.{compiled}
use Rattle.linear_forms.specs.Activation.{Activation, State, goes_to}
use Rattle.linear_forms.specs.Machine.{step}
use Rattle.linear_forms.specs.UnitRun.{code_of}
use Rattle.machine_forms.specs.Shape.{slot_offset}
use Rattle.machine_forms.specs.LinearCode.{linear_code}
use Rattle.machine_pieces.specs.Numbers.{IsInt, extended}
use Rattle.machine_pieces.specs.Frames.{byte_of, location_byte}
use Rattle.machine_simulation.specs.Plan.{Plan, function, shape, slot_kinds, setting}
use Rattle.machine_simulation.specs.Extents.{StandApart, IntsInside, LocationStands}
use Rattle.machine_simulation.specs.Calls.{HeldBy, CallStands}
use Rattle.machine_simulation.specs.Matches.{MemoryMatches, Matches}
use Rattle.machine_simulation.specs.Operations.{IsQuiet, Matched}
use Rattle.machine_simulation.specs.Asked.{OperationAsked}

-- A store inside the bytes of one live thing leaves every open call in whose frame no slot that begins there holds a word: its slots, its
-- return address and where its bytes are. An int that is written where ints may be written changes the state of the machine for linear
-- code and memory alike, and so does an address that is written to a slot that is no variable: memory holds what it held, but for that.
pub record StoresStayApart : Type 0 where
  pub others : (p : Plan) (n : ℕ) (frame : Frame) (v : World) (memory : List Part) (stack back : ℕ) (b : Base) (o size value : ℕ) → StandApart p memory → IntsInside p v →
      p.live b ≡ true → p.ints b ≡ false → o + size ≤ p.size b → ((s : ℕ) → s < length (shape p n).slots → b ≡ of_variable frame.call s → frame.slots s ≡ nothing) → CallStands p n frame v memory stack back →
      CallStands p n frame v (with_value memory (p.at b + o) size value) stack back
  pub int : (p : Plan) (n : ℕ) (frame new_frame : Frame) (fs : List Activation) (v new_world : World) (memory : List Part) (stack back : ℕ) (l : Location) (z : ℤ) →
      MemoryMatches p n frame fs v memory stack back → IsInt z → LocationStands p (shape p n) (slot_kinds p n) l → stored_at l z frame v ≡ goes new_frame new_world →
      MemoryMatches p n new_frame fs new_world (with_value memory (location_byte (setting p n) (shape p n) stack l) 4 (extended z)) stack back
  pub address : (p : Plan) (n : ℕ) (frame : Frame) (fs : List Activation) (v : World) (memory : List Part) (stack back s : ℕ) (b : Address) →
      MemoryMatches p n frame fs v memory stack back → s < length (shape p n).slots → is_variable (slot_kinds p n s) ≡ false → byte_of (setting p n) b < 2 ^ 64 → HeldBy p v frame.call b.base →
      MemoryMatches p n (with_slot s (address_word b) frame) fs v (with_value memory (stack + slot_offset (shape p n) s) 8 (byte_of (setting p n) b)) stack back

-- One step of the machine for linear code at an operation that calls nothing is matched by at most as many turns of the ABI machine as the
-- operation has words, and at least one if it has any. They show nothing, and the state and the world behind them match.
abbrev pub OperationsRun : Type 0
OperationsRun = (image : Image) (p : Plan) (n : ℕ) (st next : State) (w : abi.World) (o : LinearOp) → Matches p st w → st.top.function ≡ compiled n → slice_get (function p n).ops st.top.place ≡ Some o →
    IsQuiet o → OperationAsked p n st.top.frame st.world o → step (code_of p.unit) st ≡ goes_to next →
    Matched image (length (linear_code (shape p n) o)) w [] (λ v. Matches p next v)
