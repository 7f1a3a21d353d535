-- Runs of the ABI machine whose turns are enough.
use Rattle.std.specs.Prelude.{◌≡◌, ◌⊎◌, ℕ, ◌+◌, ◌≤◌}
use Rattle.cxa_runtime.specs.declared.effect.End.TheVariants as ends
use Rattle.cxa_runtime.specs.Raising.{Image}
use Rattle.cxa_runtime.specs.Run.{run}
use Rattle.cxa_runtime.specs.World as abi
use Rattle.meaning_forms.specs.Outcome as source
use Rattle.region_forms.specs.World.{World}
use Rattle.linear_forms.specs.Activation.{Code, State, Final, by_program, goes_to}
use Rattle.linear_forms.specs.Machine.{over, exec}
use Rattle.linear_forms.specs.Pace.{paying, Leads}
use Rattle.linear_simulation.specs.ProgramRuns.{BeginsWith}
use Rattle.cost_words.specs.Spends.{spends}
use Rattle.whole_runs.specs.Steps.{FollowsOn}
use Rattle.whole_runs.specs.Runs.{Starts}

-- where linear code comes to what is not defined, or to a fault, so many steps but one may have paid for turns
abbrev pub BreaksLate : Code → State → ℕ → Type 0
BreaksLate code st n = (m : ℕ) (how : Final) (v : World) → exec code m st ≡ over how v → ((why : source.End) → how ≡ by_program why → ⊥) → n ≤ paying code m st + 1

-- Runs against so many steps of linear code, whose turns are at least what these steps spend, what is before the first of them, and 128 beside that. Where the
-- steps come to an end of the program, the turns of no run are used up. And where they come to a state before linear code breaks, a run has shown all items of
-- that, or the stack is used up.
pub record RunSuffices (image : Image) (pick : ℕ → ℕ) (code : Code) (most : ℕ) (first : State) (w : abi.World) (before steps : ℕ) : Type 0 where
  pub ended : (n : ℕ) (why : source.End) (v : World) → n ≤ most → before + spends code steps first + 128 ≤ n → exec code steps first ≡ over (by_program why) v
      → (run image pick n w).end ≡ ends.Budget → ⊥
  pub going : (n : ℕ) (last : State) → n ≤ most → before + spends code steps first + 128 ≤ n → Leads code steps first (goes_to last) → BreaksLate code first n
      → BeginsWith last.world.items (run image pick n w).items ⊎ ((run image pick n w).end ≡ ends.Stack)

-- Where steps go on so from a beginning, so it is with each run.
abbrev pub RunsSuffice : Type 0
RunsSuffice = (image : Image) (pick : ℕ → ℕ) (code : Code) (most : ℕ) (first : State) (w : abi.World) → (s : Starts image pick (FollowsOn image pick code most) first w)
    → (steps : ℕ) → RunSuffices image pick code most first w s.turns steps
