-- What comes out of an unexpected handler, in a whole run.
use Rattle.std.specs.Prelude.{◌≡◌, ℕ, pos, ◌^◌, ◌<◌, true, false, Option, Some}
use Rattle.meaning_forms.specs.World.{Installed}
use Rattle.cxa_runtime.specs.World as abi
use Rattle.region_forms.specs.Lives.{may_enter}
use Rattle.region_forms.specs.World.{flying, native, exception_in_slot, exception_at}
use Rattle.linear_forms.specs.Activation.{State}
use Rattle.linear_forms.specs.StubOperation.{checked}
use Rattle.linear_forms.specs.UnitRun.{code_of}
use Rattle.machine_simulation.specs.Plan.{Plan}
use Rattle.machine_exceptions.specs.Enters.{is_crowded}
use Rattle.stub_landings.specs.Rests.{ChecksThrown}
use Rattle.unexpected_calls.specs.Leaves.{CalledByCompiled}
use Rattle.step_law.specs.Rows.{Run, FollowsIn}
use Rattle.step_law.specs.Own.{StandsAt}

-- call_unexpected, which a compiled function called, is behind its first pad with an exception
pub record ComesOut (x : Run) (q : Plan) (before : ℕ) (st : State) (w : abi.World) (e d : ℕ) : Type 0 where
  pub here : StandsAt x q before st w
  pub rests : ChecksThrown q st w
  pub called : CalledByCompiled st
  pub flies : st.top.frame.slots 4 ≡ flying e d

-- It is of this language, and may be entered within 2^40 turns; and the list of the specification answers so about it: it is allowed, bad_exception is
-- listed, or neither.
pub record IsAnswered (x : Run) (q : Plan) (before : ℕ) (st : State) (w : abi.World) (e d type : ℕ) (destructor : Option ℕ) (kept : Installed) (answer : ℕ) : Type 0 where
  pub out : ComesOut x q before st w e d
  pub few : before < 2 ^ 40
  pub native : exception_at st.world e ≡ native type destructor kept
  pub may : may_enter st.world e ≡ true
  pub says : checked q.unit.types ((code_of q.unit).sense_at out.rests.kept.owner out.rests.kept.selector) (Some type) ≡ pos answer

-- where it may not be entered, what follows is not defined
abbrev pub OutOfHandlerBreaks : Type 0
OutOfHandlerBreaks = (x : Run) (q : Plan) (before e d : ℕ) (st : State) (w : abi.World) → ComesOut x q before st w e d → may_enter st.world e ≡ false → FollowsIn x before st w

-- where it is foreign, and another is handled: terminate's handler begins, or there is no room for it, or none is called
abbrev pub OutOfHandlerIsCrowded : Type 0
OutOfHandlerIsCrowded = (x : Run) (q : Plan) (before e d : ℕ) (st : State) (w : abi.World) → ComesOut x q before st w e d → before < 2 ^ 40 → may_enter st.world e ≡ true → is_crowded st.world e ≡ true → FollowsIn x before st w

-- So it is with the terminate handler kept with the exception that was stopped, where neither is listed. That one is of this language still, since it is
-- handled.
abbrev pub UnlistedFollows : Type 0
UnlistedFollows = (x : Run) (q : Plan) (before e d type type0 : ℕ) (destructor destructor0 : Option ℕ) (kept kept0 : Installed) (st : State) (w : abi.World) → IsAnswered x q before st w e d type destructor kept 2 →
    exception_at st.world (exception_in_slot st.top.frame 0) ≡ native type0 destructor0 kept0 → FollowsIn x before st w

-- where it is allowed: it is thrown again, and comes to a pad; or nothing stops it, and its terminate handler is called
abbrev pub AllowedFollows : Type 0
AllowedFollows = (x : Run) (q : Plan) (before e d type : ℕ) (destructor : Option ℕ) (kept : Installed) (st : State) (w : abi.World) → IsAnswered x q before st w e d type destructor kept 0 → FollowsIn x before st w

-- where bad_exception is listed: one is thrown in its place, and comes to a pad; or nothing stops it, or none can be made
abbrev pub BadFollows : Type 0
BadFollows = (x : Run) (q : Plan) (before e d type : ℕ) (destructor : Option ℕ) (kept : Installed) (st : State) (w : abi.World) → IsAnswered x q before st w e d type destructor kept 1 → FollowsIn x before st w
