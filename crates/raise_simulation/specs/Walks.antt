-- The walk of an unwinder over open calls.
use Rattle.std.specs.Prelude.{◌≡◌, ℕ, false, List, [], ◌∷◌, ◌++◌}
use Rattle.table_forms.specs.Fde.{Fde}
use Rattle.table_forms.specs.Verdict.{look_up_place}
use Rattle.rv64_isa.specs.State.{State, reg_of}
use Rattle.frame_walk.specs.declared.frame.Frame.{Frame}
use Rattle.raise_core.specs.Stack.{end_of_stack, first_frame, frames}
use Rattle.raise_simulation.specs.OpenCalls.{OpenCall, CallsStand, IsOutermost, outer_ip, frames_of, frame_behind}

-- The frames of a stack begin with those of the calls that are open on it, and the one outward of them. If nothing is outward of that one,
-- it is the last.
pub record CallsAreWalked : Type 0 where
  pub front : (s : State) (fdes : List Fde) (sp : ℕ) (cs : List OpenCall) → reg_of s.regs 2 ≡ sp → CallsStand s fdes s.pc sp cs →
      (more : List Frame) × ((frames s fdes).frames ≡ frames_of (first_frame s) sp cs ++ frame_behind (first_frame s) sp cs ∷ more)
  pub whole : (s : State) (fdes : List Fde) (sp : ℕ) (cs : List OpenCall) → reg_of s.regs 2 ≡ sp → CallsStand s fdes s.pc sp cs → IsOutermost fdes (look_up_place (outer_ip s.pc cs) false) →
      frames s fdes ≡ record { frames = frames_of (first_frame s) sp cs ++ frame_behind (first_frame s) sp cs ∷ []; ending = end_of_stack }
