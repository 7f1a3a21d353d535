-- What the laws of raises ask of a state, where an operation raises an exception or lets one go on.
use Rattle.std.specs.Prelude.{◌≡◌, ℕ, ℤ, List, ◌∷◌, Option}
use Rattle.cxa_runtime.specs.World as abi
use Rattle.region_forms.specs.Caught.{Entry}
use Rattle.region_forms.specs.Form.{throw}
use Rattle.region_forms.specs.World.{flying, unwinding, exception_in_slot, type_at}
use Rattle.linear_forms.specs.Defined.{IsDefined}
use Rattle.linear_forms.specs.Linear.{LinearOp, plain, resume}
use Rattle.linear_forms.specs.Activation.{State}
use Rattle.linear_forms.specs.Machine.{step}
use Rattle.machine_simulation.specs.Plan.{Plan}
use Rattle.machine_raises.specs.Forced.{ForcedAsked}
use Rattle.machine_raises.specs.Pads.{PadsArePlain, FiltersAreInts}
use Rattle.machine_raises.specs.Resumes.{TypeIsThere, ResumeAsked}
use Rattle.machine_raises.specs.Stacks.{IsRunning}
use Rattle.machine_raises.specs.Throws.{MayThrow}
use Rattle.step_law.specs.Facts.{code_for}
use Rattle.step_law.specs.Rows.{Run, IsAt, FollowsIn}

-- In each state that stands the machine runs the image, with plain pads and filters that are ints. A throw that is defined may throw; the newest exception
-- that is handled has its type there; an exception that goes on has its target, and its header aims at it; and a forced unwind that goes on is that which
-- the runtime has.
pub record RaisesAreAsked : Type 0 where
  pub running : (x : Run) (q : Plan) (before n : ℕ) (o : LinearOp) (st : State) (w : abi.World) → IsAt x q before n o st w → IsRunning q x.image w.hart
  pub pads : (x : Run) (q : Plan) (before n : ℕ) (o : LinearOp) (st : State) (w : abi.World) → IsAt x q before n o st w → PadsArePlain q × FiltersAreInts q
  pub throws : (x : Run) (q : Plan) (before n s t : ℕ) (d : Option ℕ) (st : State) (w : abi.World) → IsAt x q before n (plain (throw s t d)) st w → IsDefined (step (code_for x.program) st) →
      MayThrow q n st.top.frame s (exception_in_slot st.top.frame s) t d
  pub newest : (x : Run) (q : Plan) (before n : ℕ) (o : LinearOp) (st : State) (w : abi.World) (y : Entry) (ys : List Entry) → IsAt x q before n o st w → st.world.caught ≡ y ∷ ys → TypeIsThere q (type_at st.world y.number)
  pub resumes : (x : Run) (q : Plan) (before n s e d : ℕ) (st : State) (w : abi.World) → IsAt x q before n (resume s) st w → st.top.frame.slots s ≡ flying e d → ResumeAsked q n st w s e d
  pub forced : (x : Run) (q : Plan) (before n s : ℕ) (z : ℤ) (st : State) (w : abi.World) → IsAt x q before n (resume s) st w → st.top.frame.slots s ≡ unwinding z → ForcedAsked q n st w s z

-- where an exception goes on behind a cleanup of a compiled function: to a pad of a compiled function, or of one of the runtime's own
abbrev pub ResumesFollow : Type 0
ResumesFollow = (x : Run) (q : Plan) (before n s e d : ℕ) (st : State) (w : abi.World) → IsAt x q before n (resume s) st w → st.top.frame.slots s ≡ flying e d → FollowsIn x before st w
