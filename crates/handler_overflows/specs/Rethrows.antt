-- The newest handled exception is thrown again, nothing stops it, and the handler that is used finds no room.
use Rattle.std.specs.Prelude.{◌≡◌, ℕ, ◌+◌, ◌≤◌, false, List, length, Some}
use Rattle.elf_image.specs.Clean.{CleanImage}
use Rattle.cxa_runtime.specs.World as abi
use Rattle.eh_run.specs.Program.{program_of}
use Rattle.region_forms.specs.Form.{rethrow}
use Rattle.region_forms.specs.Caught.{Entry}
use Rattle.region_forms.specs.World.{exception_at}
use Rattle.linear_forms.specs.Linear.{plain}
use Rattle.linear_forms.specs.Activation.{State}
use Rattle.machine_forms.specs.LinearCode.{linear_code}
use Rattle.machine_simulation.specs.Plan.{Plan, shape}
use Rattle.machine_simulation.specs.Matches.{Matches}
use Rattle.machine_raises.specs.Stacks.{IsRunning}
use Rattle.raise_ends.specs.Rethrows.{handler_used, entering, AtRethrow, rethrown_state}
use Rattle.handler_overflows.specs.Overflow.{HandlerLacksRoom, HandlerOverflows}

-- what is shown is that it is entered, where it is of this language
abbrev pub RethrowsOverflow : Type 0
RethrowsOverflow = (i : CleanImage) (pick : ℕ → ℕ) (k : ℕ) (p : Plan) (n m : ℕ) (x : Entry) (others : List Entry) (st : State) (w : abi.World) → Matches p st w → IsRunning p i w.hart → AtRethrow i p n x others st → st.world.ending ≡ false →
    handler_used (exception_at st.world x.number) st.world ≡ Some m → p.hidden ≡ 0 → HandlerLacksRoom p m st → length (linear_code (shape p n) (plain rethrow)) + 13 ≤ k →
    HandlerOverflows (program_of i).image pick k p m st (rethrown_state x st) w (entering (exception_at st.world x.number) x.number)
