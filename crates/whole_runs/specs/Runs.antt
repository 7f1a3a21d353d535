-- A whole run of the ABI machine against the run of linear code.
use Rattle.std.specs.Prelude.{◌≡◌, ◌⊎◌, true, ℕ, ◌+◌, ◌≤◌, ◌<◌, []}
use Rattle.cxa_runtime.specs.declared.effect.End.TheVariants as ends
use Rattle.cxa_runtime.specs.Raising.{Image}
use Rattle.cxa_runtime.specs.Run.{Ran, run}
use Rattle.cxa_runtime.specs.World as abi
use Rattle.meaning_forms.specs.Outcome as source
use Rattle.region_forms.specs.World.{World}
use Rattle.linear_forms.specs.Activation.{Code, State, by_program, goes_to}
use Rattle.linear_forms.specs.Machine.{over, exec}
use Rattle.linear_forms.specs.Pace.{pays_at, paying, Leads}
use Rattle.linear_simulation.specs.ProgramRuns.{BeginsWith}
use Rattle.whole_runs.specs.Turns.{Invariant, Made}
use Rattle.whole_runs.specs.Steps.{end_of, FollowsOn}

-- a run ends for want of turns, or for want of stack where 4,096 calls were open
abbrev pub IsCutOff : Ran → ℕ → Type 0
IsCutOff r deepest = (r.end ≡ ends.Budget) ⊎ ((r.end ≡ ends.Stack) × (4096 ≤ deepest))

-- a run that is not cut off ends as the program does, and shows the same items; else a front of them
pub record EndsAs (r : Ran) (why : source.End) (v : World) : Type 0 where
  pub front : BeginsWith r.items v.items
  pub end : ((r.end ≡ end_of why) × (r.items ≡ v.items)) ⊎ IsCutOff r v.deepest

-- a run that is cut off before the program is in this world
pub record StopsBefore (r : Ran) (v : World) : Type 0 where
  pub front : BeginsWith r.items v.items
  pub end : IsCutOff r v.deepest

-- Runs with at most so many turns, against so many steps of linear code. Where the steps come to an end of the program, a run ends so too, if its turns suffice.
-- Where they come to an operation that may pay for a turn, a run with no more turns than were paid, and one for main's own call, does not come behind it.
pub record RunFollows (image : Image) (pick : ℕ → ℕ) (code : Code) (most : ℕ) (first : State) (w : abi.World) (steps : ℕ) : Type 0 where
  pub ended : (n : ℕ) (why : source.End) (v : World) → n ≤ most → exec code steps first ≡ over (by_program why) v → EndsAs (run image pick n w) why v
  pub going : (n : ℕ) (last : State) → n ≤ most → Leads code steps first (goes_to last) → pays_at code last ≡ true → n ≤ paying code steps first + 1
      → StopsBefore (run image pick n w) last.world

-- some turns that show nothing lead from a world to where the invariant holds of the first state of a run
pub record Starts (image : Image) (pick : ℕ → ℕ) (S : Invariant) (first : State) (w : abi.World) : Type 0 where
  pub fresh : first.world.items ≡ []
  pub turns : ℕ
  pub some : 0 < turns
  pub after : abi.World
  pub made : Made image pick turns w after []
  pub stands : S turns first after

-- Where steps go on so from a beginning, each run follows.
abbrev pub RunsFollowSteps : Type 0
RunsFollowSteps = (image : Image) (pick : ℕ → ℕ) (code : Code) (most : ℕ) (first : State) (w : abi.World) →
    Starts image pick (FollowsOn image pick code most) first w → (steps : ℕ) → RunFollows image pick code most first w steps
