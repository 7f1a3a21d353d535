-- What open calls take of the stack.
use Rattle.std.specs.Prelude.{◌≡◌, ℕ, ◌+◌, ◌*◌, ◌<◌, ◌≤◌, List, [], ◌∷◌}
use Rattle.cxx_ast.specs.Checked.{IsChecked}
use Rattle.cxx_ast.specs.Plain.{Checked}
use Rattle.linear_forms.specs.Stub.{Function, terminating}
use Rattle.linear_forms.specs.Activation.{Activation, depth_of}
use Rattle.flight_homes.specs.Nest.{CallsNest}
use Rattle.machine_simulation.specs.Plan.{Plan, shape}
use Rattle.machine_simulation.specs.Calls.{open_bytes}
use Rattle.source_bounds.specs.Compiled.{unit_for}

-- no frame of a unit has more than 1,600 bytes
abbrev pub FramesAreSmall : Plan → Type 0
FramesAreSmall p = (n : ℕ) → (shape p n).size ≤ 1600

-- so it is of every checked program
abbrev pub CheckedFramesAreSmall : Type 0
CheckedFramesAreSmall = (p : Checked) → IsChecked p → (q : Plan) → q.unit ≡ unit_for p → FramesAreSmall q

-- how often terminate waits for its handler: it runs once at most
abbrev pub is_terminate_call : Function → ℕ
is_terminate_call terminating = 1
is_terminate_call f = 0

abbrev pub terminate_calls : List Activation → ℕ
terminate_calls [] = 0
terminate_calls (a ∷ fs) = is_terminate_call a.function + terminate_calls fs

-- Above each call of a compiled function at most call_unexpected and end_catch wait, which take 80 and 48 bytes.
abbrev pub OpenCallsTake : Type 0
OpenCallsTake = (p : Plan) (fs : List Activation) → FramesAreSmall p → CallsNest fs → open_bytes p fs ≤ 1728 * depth_of fs + (32 + p.hidden) * terminate_calls fs + 128

-- The frames that terminate hides were taken by calls of which no more were open than the deepest call counts; nor are more open now. Where one more
-- frame finds no room, 4,096 were.
abbrev pub StacksHoldCalls : Type 0
StacksHoldCalls = (p : Plan) (fs : List Activation) (m deepest : ℕ) → FramesAreSmall p → CallsNest fs → terminate_calls fs ≤ 1 → p.hidden ≤ 1728 * deepest + 128 → depth_of fs ≤ deepest →
    0x100_0000 < open_bytes p fs + (shape p m).size + 0x1000 → 4096 ≤ deepest
