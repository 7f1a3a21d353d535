-- call_unexpected terminates the program, in a whole run: nothing else is done about what a specification stopped.
use Rattle.std.specs.Prelude.{◌≡◌, ℕ, ◌^◌, ◌<◌, List, ◌∷◌, Option, None}
use Rattle.cxa_runtime.specs.World as abi
use Rattle.meaning_forms.specs.World.{Installed}
use Rattle.region_forms.specs.World.{native, exception_in_slot, exception_at}
use Rattle.linear_forms.specs.Linear.{unexpected, return}
use Rattle.linear_forms.specs.Stub.{call_unexpected}
use Rattle.linear_forms.specs.Activation.{Activation, State}
use Rattle.machine_simulation.specs.Plan.{Plan}
use Rattle.step_law.specs.Rows.{Run, IsAt, FollowsIn}
use Rattle.step_law.specs.Unexpected.{IsStopped}

-- where no unexpected handler is kept with what was stopped: the terminate handler kept with it begins, or there is no room for it, or none is called
abbrev pub StoppedTerminates : Type 0
StoppedTerminates = (x : Run) (q : Plan) (before n o s type : ℕ) (d : Option ℕ) (kept : Installed) (st : State) (w : abi.World) → IsAt x q before n (unexpected o s) st w → before < 2 ^ 40 → IsStopped st o type d kept →
    kept.unexpected_handler ≡ None → FollowsIn x before st w

-- An unexpected handler is at its return to call_unexpected, which waits for it above the call whose specification stopped an exception. What that is it
-- keeps, and it is of this language still, since it is handled.
pub record HandlerIsOver (st : State) (waiting a : Activation) (fs : List Activation) (type : ℕ) (d : Option ℕ) (kept : Installed) : Type 0 where
  pub frames : st.frames ≡ waiting ∷ a ∷ fs
  pub stub : waiting.function ≡ call_unexpected
  pub place : waiting.place ≡ 1
  pub native : exception_at st.world (exception_in_slot waiting.frame 0) ≡ native type d kept

-- there the terminate handler kept with that begins, or there is no room for it, or none is called
abbrev pub UnexpectedReturns : Type 0
UnexpectedReturns = (x : Run) (q : Plan) (before n type : ℕ) (r d : Option ℕ) (kept : Installed) (waiting a : Activation) (fs : List Activation) (st : State) (w : abi.World) → IsAt x q before n (return r) st w →
    HandlerIsOver st waiting a fs type d kept → FollowsIn x before st w
