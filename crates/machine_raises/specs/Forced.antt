-- A forced unwind that was stopped for a cleanup goes on.
use Rattle.std.specs.Prelude.{◌≡◌, ℕ, ◌+◌, ◌^◌, ◌<◌, ℤ, [], length, Some}
use Rattle.elf_image.specs.Clean.{CleanImage}
use Rattle.cxa_runtime.specs.World as abi
use Rattle.eh_run.specs.Program.{program_of}
use Rattle.region_forms.specs.World.{unwinding}
use Rattle.linear_forms.specs.Linear.{resume}
use Rattle.linear_forms.specs.Stub.{compiled}
use Rattle.linear_forms.specs.Activation.{State}
use Rattle.machine_forms.specs.Shape.{slot_offset}
use Rattle.machine_forms.specs.LinearCode.{linear_code}
use Rattle.machine_simulation.specs.Plan.{Plan, shape}
use Rattle.machine_simulation.specs.Matches.{Matches}
use Rattle.machine_simulation.specs.Operations.{Matched}
use Rattle.machine_simulation.specs.Returns.{closed}
use Rattle.machine_simulation.specs.Steps.{StepAt}
use Rattle.machine_simulation.specs.Objects.{Shows}
use Rattle.machine_raises.specs.Stacks.{IsRunning}
use Rattle.machine_raises.specs.Pads.{PadsArePlain, FiltersAreInts}

-- A slot holds the exit number of the forced unwind that is on.
pub record ForcedAsked (p : Plan) (n : ℕ) (st : State) (w : abi.World) (s : ℕ) (k : ℤ) : Type 0 where
  pub inside : s < length (shape p n).slots
  pub near : slot_offset (shape p n) s < 2 ^ 11
  pub is : st.top.frame.slots s ≡ unwinding k
  pub on : w.unwinding ≡ Some k

-- the runtime keeps what it kept
pub record KeepsAll (w u : abi.World) : Type 0 where
  pub exceptions : u.exceptions ≡ w.exceptions
  pub unwinding : u.unwinding ≡ w.unwinding

-- A step that goes on with a forced unwind, and comes to a pad of a compiled function.
abbrev pub ForcedRun : Type 0
ForcedRun = (i : CleanImage) (p : Plan) (n m s : ℕ) (k : ℤ) (st next : State) (w : abi.World) → Matches p st w → IsRunning p i w.hart → StepAt p st next n (resume s) → ForcedAsked p n st w s k → PadsArePlain p → FiltersAreInts p →
    next.top.function ≡ compiled m → Shows st next [] × Matched (program_of i).image (length (linear_code (shape p n) (resume s)) + 2) w [] (λ u. Matches (closed p next.top.frame.call) next u × KeepsAll w u)
