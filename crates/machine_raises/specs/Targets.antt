-- The target of a raise: which call it is, and where its frame ends.
use Rattle.std.specs.Prelude.{ℕ, ◌+◌, ◌==◌, List, [], ◌∷◌, length, Option, Some, None, if◌then◌else◌}
use Rattle.linear_forms.specs.Stub.{Function, compiled, end_catch, terminating, call_unexpected}
use Rattle.linear_forms.specs.Activation.{Activation}
use Rattle.machine_stubs.specs.Stretches.{frame_size}
use Rattle.machine_simulation.specs.Plan.{Plan, shape}

-- the bytes of a call's frame
abbrev pub call_size : Plan → Function → ℕ
call_size p (compiled n) = (shape p n).size
call_size p end_catch = frame_size end_catch
call_size p terminating = frame_size terminating
call_size p call_unexpected = frame_size call_unexpected

-- the end of the frame of the call below which d calls wait, where the frames begin at an address: its canonical frame address
abbrev pub target_end : Plan → (d stack : ℕ) → List Activation → ℕ
target_end p d stack [] = 0
target_end p d stack (a ∷ fs) = if length fs == d then stack + call_size p a.function else target_end p d (stack + call_size p a.function) fs

-- the function of the call below which d calls wait
abbrev pub target_call : (d : ℕ) → List Activation → Option Function
target_call d [] = None
target_call d (a ∷ fs) = if length fs == d then Some a.function else target_call d fs
