-- An exception is thrown that nothing stops, and the handler in effect finds no room.
use Rattle.std.specs.Prelude.{◌≡◌, ℕ, ◌+◌, ◌≤◌, false, [], ◌∷◌, length, Option, Some}
use Rattle.run_items.specs.declared.item.Item.TheVariants.{Enter}
use Rattle.elf_image.specs.Clean.{CleanImage}
use Rattle.cxa_runtime.specs.World as abi
use Rattle.eh_run.specs.Program.{program_of}
use Rattle.region_forms.specs.Form.{throw}
use Rattle.linear_forms.specs.Linear.{plain}
use Rattle.linear_forms.specs.Activation.{State}
use Rattle.machine_forms.specs.LinearCode.{linear_code}
use Rattle.machine_simulation.specs.Plan.{Plan, shape}
use Rattle.machine_simulation.specs.Matches.{Matches}
use Rattle.machine_raises.specs.Stacks.{IsRunning}
use Rattle.machine_raises.specs.Doomed.{AtDoomed, doomed_state}
use Rattle.handler_overflows.specs.Overflow.{HandlerLacksRoom, HandlerOverflows}

-- what is shown is that the exception is entered
abbrev pub DoomsOverflow : Type 0
DoomsOverflow = (i : CleanImage) (pick : ℕ → ℕ) (k : ℕ) (p : Plan) (n m s e t : ℕ) (d : Option ℕ) (st : State) (w : abi.World) → Matches p st w → IsRunning p i w.hart → AtDoomed i p n s e t d st → st.world.ending ≡ false →
    st.world.installed.terminate_handler ≡ Some m → p.hidden ≡ 0 → HandlerLacksRoom p m st → length (linear_code (shape p n) (plain (throw s t d))) + 13 ≤ k →
    HandlerOverflows (program_of i).image pick k p m st (doomed_state e t d st) w (Enter e ∷ [])
