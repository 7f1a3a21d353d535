-- The stack has room for calls.
use Rattle.std.specs.Prelude.{ℕ, ◌+◌, ◌*◌, ◌<◌, ◌≤◌, List, [], ◌∷◌, length}
use Rattle.cxa_runtime.specs.World as abi
use Rattle.linear_forms.specs.Stub.{Function, compiled}
use Rattle.linear_forms.specs.Activation.{Activation, State, depth_of}
use Rattle.machine_simulation.specs.Plan.{Plan, shape}
use Rattle.machine_simulation.specs.Calls.{frame_of, open_bytes}
use Rattle.machine_simulation.specs.Matches.{Matches}
use Rattle.machine_simulation.specs.Entering.{begin_room}

-- the bytes that the runtime's own functions take of the stack
abbrev pub own_bytes : Plan → Function → ℕ
own_bytes p (compiled n) = 0
own_bytes p f = frame_of p.unit p.hidden f

abbrev pub stub_bytes : Plan → List Activation → ℕ
stub_bytes p [] = 0
stub_bytes p (a ∷ fs) = own_bytes p a.function + stub_bytes p fs

-- Where a state matches, the stack has room for a call of any function beside the open calls, if 2,047 bytes for each of these and for the new
-- one, with what the runtime's own functions take, are no more than there are above the lowest 4 KiB. So at most 8,190 open calls leave room
-- where none of the runtime's own functions waits.
abbrev pub StackHasRoom : Type 0
StackHasRoom = (p : Plan) (st : State) (w : abi.World) (m : ℕ) → Matches p st w → 2047 * (depth_of (st.top ∷ st.frames) + 1) + stub_bytes p (st.top ∷ st.frames) + 0x1000 ≤ 0x100_0000 →
    m < length p.unit.functions → open_bytes p (st.top ∷ st.frames) + begin_room (shape p m).leaf (shape p m).size ≤ 0x100_0000
