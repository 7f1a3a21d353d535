-- Where a specification of a compiled function has stopped an exception.
use Rattle.std.specs.Prelude.{◌≡◌, ℕ, ◌<◌, ◌^◌, ◌&&◌, true, false, Option, Some}
use Rattle.cxa_runtime.specs.World as abi
use Rattle.region_forms.specs.World.{native, exception_in_slot, exception_at}
use Rattle.meaning_forms.specs.World.{Installed}
use Rattle.region_forms.specs.Lives.{is_native, may_enter}
use Rattle.linear_forms.specs.Linear.{unexpected}
use Rattle.linear_forms.specs.Activation.{State}
use Rattle.machine_simulation.specs.Plan.{Plan}
use Rattle.step_law.specs.Rows.{Run, IsAt, FollowsIn}

-- what it stopped is of this language, may be entered, and has these handlers kept with it
pub record IsStopped (st : State) (o type : ℕ) (d : Option ℕ) (kept : Installed) : Type 0 where
  pub native : exception_at st.world (exception_in_slot st.top.frame o) ≡ native type d kept
  pub may : may_enter st.world (exception_in_slot st.top.frame o) ≡ true

-- where an unexpected handler is among these: it begins, or there is no room for it
abbrev pub UnexpectedFollows : Type 0
UnexpectedFollows = (x : Run) (q : Plan) (before n o s type m : ℕ) (d : Option ℕ) (kept : Installed) (st : State) (w : abi.World) → IsAt x q before n (unexpected o s) st w → before < 2 ^ 40 → IsStopped st o type d kept →
    kept.unexpected_handler ≡ Some m → FollowsIn x before st w

-- where it is not so, what call_unexpected does is not defined
abbrev pub UnexpectedBreaks : Type 0
UnexpectedBreaks = (x : Run) (q : Plan) (before n o s : ℕ) (st : State) (w : abi.World) → IsAt x q before n (unexpected o s) st w →
    (is_native (exception_at st.world (exception_in_slot st.top.frame o)) && may_enter st.world (exception_in_slot st.top.frame o)) ≡ false → FollowsIn x before st w
