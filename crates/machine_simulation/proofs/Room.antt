-- Open calls take little of the stack.
use Rattle.std.proofs.Common.{◌≡◌, refl, ap, arith, ℕ, ◌+◌, ◌*◌, ◌^◌, ◌<◌, ◌≤◌, List, [], ◌∷◌, Option, Some, None}
use Rattle.std.specs.Prelude.{Bool, true, false, slice_get, unwrap_or}
use Rattle.rv64_isa.specs.State.{Part}
use Rattle.linear_forms.specs.Linear.{FunctionCode}
use Rattle.linear_forms.specs.Stub.{Function, compiled, end_catch, terminating, call_unexpected}
use Rattle.linear_forms.specs.UnitRun.{no_code}
use Rattle.linear_forms.specs.Activation.{Activation, counts, depth_of}
use Rattle.machine_simulation.specs.Plan.{Plan, shape}
use Rattle.machine_simulation.specs.Calls.{frame_of, open_bytes}
use Rattle.machine_simulation.specs.Matches.{UnitStands}
use Rattle.machine_simulation.specs.Entering.{begin_room}
use Rattle.machine_simulation.specs.Room.{own_bytes, stub_bytes, StackHasRoom}
use Rattle.machine_simulation.proofs.Slots.{got_inside}

-- the frame of any function of a unit is small; one that is not there has none
small_frame : (p : Plan) (memory : List Part) (n : ℕ) → UnitStands p memory → (shape p n).size < 2 ^ 11
small_frame p memory n h = by (slice_get p.unit.functions n) refl
  where
    by : (g : Option FunctionCode) → slice_get p.unit.functions n ≡ g → (shape p n).size < 2 ^ 11
    by None is =
        let none : (unwrap_or (slice_get p.unit.functions n) no_code).frame ≡ 0 = ap (λ g. (unwrap_or g no_code).frame) is in
        omega (arith, none)
    by (Some g) is = (h.frames n (got_inside p.unit.functions n g is)).small

-- each open call of a compiled function takes less than 2^11 bytes, and counts
function_bytes : (p : Plan) (memory : List Part) (f : Function) → UnitStands p memory → frame_of p.unit p.hidden f ≤ 2047 * counts f + own_bytes p f
function_bytes p memory (compiled n) h = omega (arith, small_frame p memory n h)
function_bytes p memory end_catch h = omega arith
function_bytes p memory terminating h = omega arith
function_bytes p memory call_unexpected h = omega arith

all_bytes : (p : Plan) (memory : List Part) (fs : List Activation) → UnitStands p memory → open_bytes p fs ≤ 2047 * depth_of fs + stub_bytes p fs
all_bytes p memory [] h = omega arith
all_bytes p memory (a ∷ fs) h = omega (arith, function_bytes p memory a.function h, all_bytes p memory fs h)

begins_with : (leaf : Bool) (size : ℕ) → size < 2 ^ 11 → begin_room leaf size ≤ 2047 + 0x1000
begins_with true size small = omega arith
begins_with false size small = omega (arith, small)

pub stack_has_room : StackHasRoom
stack_has_room p st w m h room known =
    omega (arith, all_bytes p w.hart.memory (st.top ∷ st.frames) h.memory.unit, begins_with (shape p m).leaf (shape p m).size (h.memory.unit.frames m known).small, room)
