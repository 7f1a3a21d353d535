-- What comes out of an unexpected handler, whatever it is, as far as what the specification stopped is handled still.
use Rattle.std.specs.Prelude.{◌≡◌, ℕ, ◌==◌, ◌^◌, ◌<◌, true, Option}
use Rattle.meaning_forms.specs.Class.{some_of}
use Rattle.meaning_forms.specs.World.{Installed}
use Rattle.cxa_runtime.specs.World as abi
use Rattle.region_forms.specs.World.{Frame, World, native, exception_in_slot, exception_at}
use Rattle.linear_forms.specs.Activation.{State}
use Rattle.machine_simulation.specs.Plan.{Plan}
use Rattle.stub_landings.specs.Rests.{ChecksThrown}
use Rattle.step_law.specs.Own.{StandsAt}
use Rattle.step_law.specs.Rows.{Run, FollowsIn}

-- call_unexpected has an exception of this language in its first slot, which is handled
pub record HandlesStopped (frame : Frame) (w : World) : Type 0 where
  pub type : ℕ
  pub destructor : Option ℕ
  pub kept : Installed
  pub native : exception_at w (exception_in_slot frame 0) ≡ native type destructor kept
  pub handled : some_of (λ y. y.number == exception_in_slot frame 0) w.caught ≡ true

-- What is behind the first pad of call_unexpected: an exception or a forced unwind, whatever the list says of it, as far as what the specification stopped is
-- handled still.
abbrev pub ChecksFollow : Type 0
ChecksFollow = (x : Run) (q : Plan) (before : ℕ) (st : State) (w : abi.World) → StandsAt x q before st w → before < 2 ^ 40 → ChecksThrown q st w → HandlesStopped st.top.frame st.world → FollowsIn x before st w
