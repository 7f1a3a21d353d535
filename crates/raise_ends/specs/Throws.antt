-- An exception without a handler is thrown, and no terminate handler is called.
use Rattle.std.specs.Prelude.{ℕ, ◌+◌, ◌≤◌, [], ◌∷◌, length, Option}
use Rattle.run_items.specs.declared.item.Item.TheVariants.{Enter}
use Rattle.elf_image.specs.Clean.{CleanImage}
use Rattle.cxa_runtime.specs.World as abi
use Rattle.eh_run.specs.Program.{program_of}
use Rattle.region_forms.specs.Form.{throw}
use Rattle.linear_forms.specs.Linear.{plain}
use Rattle.linear_forms.specs.Activation.{State}
use Rattle.machine_forms.specs.LinearCode.{linear_code}
use Rattle.machine_simulation.specs.Plan.{Plan, shape}
use Rattle.machine_simulation.specs.Matches.{Matches}
use Rattle.machine_raises.specs.Stacks.{IsRunning}
use Rattle.machine_raises.specs.Doomed.{AtDoomed}
use Rattle.raise_ends.specs.Ends.{NoneIsCalled, unless_ending, BothAbort}

-- Where terminate runs already, or no terminate handler is in effect, both machines abort. They show that the exception is entered, but not
-- while terminate runs.
abbrev pub DoomsAbort : Type 0
DoomsAbort = (i : CleanImage) (pick : ℕ → ℕ) (k : ℕ) (p : Plan) (n s e t : ℕ) (d : Option ℕ) (st : State) (w : abi.World) → Matches p st w → IsRunning p i w.hart → AtDoomed i p n s e t d st →
    NoneIsCalled st.world st.world.installed.terminate_handler → length (linear_code (shape p n) (plain (throw s t d))) + 10 ≤ k →
    BothAbort (program_of i).image pick k p st w (unless_ending st.world (Enter e ∷ []))
