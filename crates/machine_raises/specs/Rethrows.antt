-- The newest handled exception is thrown again.
use Rattle.std.specs.Prelude.{◌≡◌, ℕ, [], length}
use Rattle.elf_image.specs.Clean.{CleanImage}
use Rattle.cxa_runtime.specs.World as abi
use Rattle.region_forms.specs.Form.{rethrow}
use Rattle.region_forms.specs.World.{type_at}
use Rattle.region_forms.specs.Effect.{newest_of}
use Rattle.linear_forms.specs.Linear.{plain}
use Rattle.linear_forms.specs.Stub.{compiled}
use Rattle.linear_forms.specs.Activation.{State}
use Rattle.machine_forms.specs.LinearCode.{linear_code}
use Rattle.machine_simulation.specs.Plan.{Plan, shape}
use Rattle.machine_simulation.specs.Matches.{Matches}
use Rattle.machine_simulation.specs.Steps.{StepAt}
use Rattle.machine_simulation.specs.Objects.{Shows}
use Rattle.machine_raises.specs.Stacks.{IsRunning}
use Rattle.machine_raises.specs.Pads.{PadsArePlain, FiltersAreInts}
use Rattle.machine_raises.specs.Throws.{Raised}
use Rattle.machine_raises.specs.Resumes.{TypeIsThere}

-- A step that throws the newest handled exception again, whose type is there, and comes to a pad of a compiled function.
abbrev pub RethrowsRun : Type 0
RethrowsRun = (i : CleanImage) (p : Plan) (n m : ℕ) (st next : State) (w : abi.World) → Matches p st w → IsRunning p i w.hart → StepAt p st next n (plain rethrow) → TypeIsThere p (type_at st.world (newest_of st.world.caught)) → PadsArePlain p →
    FiltersAreInts p → next.top.function ≡ compiled m → Shows st next [] × Raised p i st next w (newest_of st.world.caught) (length (linear_code (shape p n) (plain rethrow)))
