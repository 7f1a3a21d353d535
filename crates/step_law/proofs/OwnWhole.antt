-- The rows of the runtime's own functions put together: a forced unwind goes on from end_catch or from call_unexpected, and call_unexpected leaves its
-- handlers, whatever comes of it.
use Rattle.std.proofs.Common.{◌≡◌, ◌∙◌, refl, sym, ℕ, ℤ, Option, Some, None}
use Rattle.cxa_runtime.specs.World as abi
use Rattle.region_forms.specs.World.{unwinding}
use Rattle.linear_forms.specs.Stub.{Function, compiled, end_catch, terminating, call_unexpected}
use Rattle.linear_forms.specs.Activation.{State, Code, Next, goes_to, finishes, by_program, not_defined, fault}
use Rattle.linear_forms.specs.Machine.{step}
use Rattle.machine_simulation.specs.Plan.{Plan}
use Rattle.stub_landings.specs.Landings.{GoesOn}
use Rattle.stub_landings.specs.Rests.{FreesOnTheWay, LeavesOn}
use Rattle.own_ends.specs.Unwinds.{last_state}
use Rattle.step_law.specs.Facts.{code_for}
use Rattle.step_law.specs.Leaves.{destructor_due}
use Rattle.step_law.specs.Own.{StandsAt}
use Rattle.step_law.specs.OwnLeaves.{IsLeaving, OwnDestructorsBeginFollow, OwnLeavesFollow}
use Rattle.step_law.specs.OwnUnwindEnds.{GoesOut, OwnBarredFollow, OwnUnwindsEndFollow}
use Rattle.step_law.specs.OwnUnwinds.{FreedUnwindsFollow, PassedUnwindsFollow}
use Rattle.step_law.specs.Rows.{Run, FollowsIn}

module _ (ends : OwnUnwindsEndFollow) (barred : OwnBarredFollow) (x : Run) (q : Plan) (before : ℕ) (f : Function) (z : ℤ) (st : State) (w : abi.World) (at : StandsAt x q before st w) (out : GoesOut f q st w z)
    (lands : (next : State) → step (code_for x.program) (last_state f st) ≡ goes_to next → GoesOn next → FollowsIn x before st w) where
  abbrev code : Code
  code = code_for x.program

  -- terminate is called
  terminates : (next : State) → step code (last_state f st) ≡ goes_to next → next.top.function ≡ terminating → (h : Option ℕ) → st.world.installed.terminate_handler ≡ h → FollowsIn x before st w
  terminates next e t (Some m) handler = barred x q before f m z st next w at out e t handler
  terminates next e t None handler = ends.aborts x q before f z st next w at out e t handler

  whatever : (y : Next) → step code (last_state f st) ≡ y → FollowsIn x before st w
  whatever (goes_to next) e = by next.top.function refl
    where
      by : (g : Function) → next.top.function ≡ g → FollowsIn x before st w
      by (compiled n) is = lands next e (λ t. let no : compiled n ≡ terminating = sym is ∙ t in absurd (cc no))
      by end_catch is = lands next e (λ t. let no : end_catch ≡ terminating = sym is ∙ t in absurd (cc no))
      by call_unexpected is = lands next e (λ t. let no : call_unexpected ≡ terminating = sym is ∙ t in absurd (cc no))
      by terminating is = terminates next e is st.world.installed.terminate_handler refl
  whatever (finishes (by_program why) v) e = ends.ends x q before f z why st v w at out e
  whatever (finishes not_defined v) e = ends.breaks x q before f z not_defined st v w at out e (λ why no. absurd (cc no))
  whatever (finishes fault v) e = ends.breaks x q before f z fault st v w at out e (λ why no. absurd (cc no))

pub freed_unwinds : FreedUnwindsFollow → OwnUnwindsEndFollow → OwnBarredFollow → (x : Run) (q : Plan) (before : ℕ) (z : ℤ) (st : State) (w : abi.World) → StandsAt x q before st w → FreesOnTheWay q st w → st.top.frame.slots 2 ≡ unwinding z →
    FollowsIn x before st w
freed_unwinds lands ends barred x q before z st w at h is =
    whatever ends barred x q before end_catch z st w at (h, is) (λ next e on. lands x q before z st next w at h is e on) (step (code_for x.program) (last_state end_catch st)) refl

pub passed_unwinds : PassedUnwindsFollow → OwnUnwindsEndFollow → OwnBarredFollow → (x : Run) (q : Plan) (before : ℕ) (z : ℤ) (st : State) (w : abi.World) → StandsAt x q before st w → LeavesOn q 57 17 st w → st.top.frame.slots 4 ≡ unwinding z →
    FollowsIn x before st w
passed_unwinds lands ends barred x q before z st w at h is =
    whatever ends barred x q before call_unexpected z st w at (h, is) (λ next e on. lands x q before z st next w at h is e on) (step (code_for x.program) st) refl

-- with a destructor that is due or none
pub leaves : OwnLeavesFollow → OwnDestructorsBeginFollow → (x : Run) (q : Plan) (before : ℕ) (st : State) (w : abi.World) → StandsAt x q before st w → IsLeaving q st w → FollowsIn x before st w
leaves none begins x q before st w at h = by (destructor_due st.world st.world.caught) refl
  where
    by : (d : Option ℕ) → destructor_due st.world st.world.caught ≡ d → FollowsIn x before st w
    by None due = none x q before st w at h due
    by (Some d) due = begins x q before d st w at h due
