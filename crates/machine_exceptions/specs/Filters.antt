-- A jump on a filter.
use Rattle.std.specs.Prelude.{◌≡◌, ℕ, ℤ, [], length}
use Rattle.cxa_runtime.specs.World as abi
use Rattle.cxa_runtime.specs.Raising.{Image}
use Rattle.region_forms.specs.World.{number_word}
use Rattle.linear_forms.specs.Linear.{jump_filter}
use Rattle.linear_forms.specs.Activation.{State}
use Rattle.machine_forms.specs.LinearCode.{linear_code}
use Rattle.machine_pieces.specs.Numbers.{IsInt}
use Rattle.machine_simulation.specs.Plan.{Plan, shape}
use Rattle.machine_simulation.specs.Matches.{Matches}
use Rattle.machine_simulation.specs.Operations.{Matched}
use Rattle.machine_simulation.specs.Steps.{StepAt}
use Rattle.machine_exceptions.specs.Makes.{IsWordSlot}

-- A step at a jump on a filter, whose slot holds a selector, is matched by at most as many turns as the operation has words, and by at least one.
abbrev pub FiltersRun : Type 0
FiltersRun = (image : Image) (p : Plan) (n s l : ℕ) (filter selector : ℤ) (st next : State) (w : abi.World) → Matches p st w → StepAt p st next n (jump_filter s filter l) → IsWordSlot p n s →
    st.top.frame.slots s ≡ number_word selector → IsInt filter → Matched image (length (linear_code (shape p n) (jump_filter s filter l))) w [] (λ v. Matches p next v)
