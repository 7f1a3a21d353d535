-- Where a forced unwind goes on from one of the runtime's own functions, and comes to no landing pad.
use Rattle.std.specs.Prelude.{◌≡◌, ℕ, ℤ, Some, None}
use Rattle.cxa_runtime.specs.World as abi
use Rattle.meaning_forms.specs.Outcome.{End}
use Rattle.region_forms.specs.World.{unwinding, World}
use Rattle.linear_forms.specs.Stub.{Function, compiled, end_catch, terminating, call_unexpected}
use Rattle.linear_forms.specs.Activation.{State, Final, goes_to, finishes, by_program}
use Rattle.linear_forms.specs.Machine.{step}
use Rattle.machine_simulation.specs.Plan.{Plan}
use Rattle.stub_landings.specs.Rests.{FreesOnTheWay, LeavesOn}
use Rattle.own_ends.specs.Unwinds.{last_state}
use Rattle.step_law.specs.Facts.{code_for}
use Rattle.step_law.specs.Own.{StandsAt}
use Rattle.step_law.specs.Rows.{Run, FollowsIn}

-- end_catch is about to free an object for one, or call_unexpected is at its last operation with it
abbrev pub GoesOut : Function → Plan → State → abi.World → ℤ → Type 0
GoesOut (compiled n) q st w z = ⊥
GoesOut end_catch q st w z = FreesOnTheWay q st w × (st.top.frame.slots 2 ≡ unwinding z)
GoesOut terminating q st w z = ⊥
GoesOut call_unexpected q st w z = LeavesOn q 57 17 st w × (st.top.frame.slots 4 ≡ unwinding z)

-- The program exits at the end of the stack, or aborts at a call without a site, while terminate runs; so it does where terminate is called there and no
-- handler is in effect. Or it comes to what is not defined, or to a fault.
pub record OwnUnwindsEndFollow : Type 0 where
  pub ends : (x : Run) (q : Plan) (before : ℕ) (f : Function) (z : ℤ) (why : End) (st : State) (v : World) (w : abi.World) → StandsAt x q before st w → GoesOut f q st w z →
      step (code_for x.program) (last_state f st) ≡ finishes (by_program why) v → FollowsIn x before st w
  pub aborts : (x : Run) (q : Plan) (before : ℕ) (f : Function) (z : ℤ) (st next : State) (w : abi.World) → StandsAt x q before st w → GoesOut f q st w z → step (code_for x.program) (last_state f st) ≡ goes_to next →
      next.top.function ≡ terminating → st.world.installed.terminate_handler ≡ None → FollowsIn x before st w
  pub breaks : (x : Run) (q : Plan) (before : ℕ) (f : Function) (z : ℤ) (how : Final) (st : State) (v : World) (w : abi.World) → StandsAt x q before st w → GoesOut f q st w z → step (code_for x.program) (last_state f st) ≡ finishes how v →
      ((why : End) → how ≡ by_program why → ⊥) → FollowsIn x before st w

-- A terminate handler in effect begins there, below the frames that were left, or finds no room.
abbrev pub OwnBarredFollow : Type 0
OwnBarredFollow = (x : Run) (q : Plan) (before : ℕ) (f : Function) (m : ℕ) (z : ℤ) (st next : State) (w : abi.World) → StandsAt x q before st w → GoesOut f q st w z → step (code_for x.program) (last_state f st) ≡ goes_to next →
    next.top.function ≡ terminating → st.world.installed.terminate_handler ≡ Some m → FollowsIn x before st w
