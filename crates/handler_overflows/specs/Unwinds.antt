-- A forced unwind comes to a call out of which nothing may come, and the handler in effect finds no room.
use Rattle.std.specs.Prelude.{◌≡◌, ℕ, ◌+◌, ◌≤◌, ℤ, [], length, Some}
use Rattle.elf_image.specs.Clean.{CleanImage}
use Rattle.cxa_runtime.specs.World as abi
use Rattle.cxa_runtime.specs.Raising.{Image}
use Rattle.eh_run.specs.Program.{program_of}
use Rattle.linear_forms.specs.Stub.{terminating}
use Rattle.linear_forms.specs.Activation.{State, goes_to}
use Rattle.linear_forms.specs.Machine.{step}
use Rattle.linear_forms.specs.UnitRun.{code_of}
use Rattle.machine_forms.specs.LinearCode.{linear_code}
use Rattle.machine_stubs.specs.Stretches.{stub_word}
use Rattle.machine_simulation.specs.Plan.{Plan, shape}
use Rattle.machine_simulation.specs.Matches.{Matches}
use Rattle.flight_homes.specs.OpenCalls.{CallsStand}
use Rattle.machine_raises.specs.Stacks.{IsRunning}
use Rattle.raise_ends.specs.Barriers.{barred_state, Left}
use Rattle.raise_ends.specs.Unwinds.{AtUnwind}
use Rattle.handler_overflows.specs.Overflow.{HandlerLacksRoom, HandlerOverflows}

-- In linear code the calls that were left are closed; the machine's stack still has their frames, so that it lacks room where it does for all
-- calls that were open.
pub record BarredOverflows (image : Image) (pick : ℕ → ℕ) (j : ℕ) (p : Plan) (m : ℕ) (st : State) (w : abi.World) : Type 0 where
  pub left : Left st
  pub overflows : HandlerOverflows image pick j p m st (barred_state left.barring left.outer st.world) w []

abbrev pub ForcedUnwindsOverflow : Type 0
ForcedUnwindsOverflow = (i : CleanImage) (pick : ℕ → ℕ) (j : ℕ) (p : Plan) (n m : ℕ) (k : ℤ) (st next : State) (w : abi.World) → Matches p st w → IsRunning p i w.hart → (at : AtUnwind p n st w k) → step (code_of p.unit) st ≡ goes_to next →
    next.top.function ≡ terminating → CallsStand st → (program_of i).image.places.terminate ≡ stub_word p.base terminating 0 → st.world.installed.terminate_handler ≡ Some m → p.hidden ≡ 0 → HandlerLacksRoom p m st →
    length (linear_code (shape p n) at.operation) + 13 ≤ j → BarredOverflows (program_of i).image pick j p m st w
