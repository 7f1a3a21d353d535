-- A step that comes to nothing.
use Rattle.std.specs.Prelude.{◌≡◌, ℕ}
use Rattle.cxa_runtime.specs.World as abi
use Rattle.meaning_forms.specs.Outcome.{End}
use Rattle.region_forms.specs.World.{World}
use Rattle.linear_forms.specs.Activation.{State, Final, by_program, finishes}
use Rattle.linear_forms.specs.Machine.{step}
use Rattle.step_law.specs.Facts.{code_for}
use Rattle.step_law.specs.Rows.{Run, FollowsIn}

-- to what is not defined, or to a fault
abbrev pub BreaksFollow : Type 0
BreaksFollow = (x : Run) (before : ℕ) (st : State) (w : abi.World) (e : Final) (v : World) → step (code_for x.program) st ≡ finishes e v → ((why : End) → e ≡ by_program why → ⊥) → FollowsIn x before st w
