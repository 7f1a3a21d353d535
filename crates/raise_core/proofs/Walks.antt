-- A search over the frames of a stack, one frame after the other.
use Rattle.std.proofs.Common.{◌≡◌, ℕ, suc, Bool, true, false, List, ◌∷◌, refl, ap, sym, subst, ◌∙◌, if◌then◌else◌}
use Rattle.std.specs.Prelude.{Option, Some}
use Rattle.table_forms.specs.declared.found.Verdict.{Verdict}
use Rattle.table_forms.specs.Fde.{Fde}
use Rattle.table_forms.specs.Verdict.{Thrown}
use Rattle.rv64_isa.specs.State.{State}
use Rattle.rv64_isa.specs.declared.step.FaultKind.TheVariants as faults
use Rattle.frame_walk.specs.declared.frame.Frame.{Frame}
use Rattle.frame_walk.specs.declared.frame.Walk.{Walk}
use Rattle.frame_walk.specs.Outward.{next_frame}
use Rattle.raise_core.specs.declared.asked.Target.{Target}
use Rattle.raise_core.specs.declared.found.Found.{Found}
use Rattle.raise_core.specs.declared.found.Found.TheVariants as founds
use Rattle.raise_core.specs.declared.found.Landing.{Landing}
use Rattle.raise_core.specs.declared.goal.Goal.{Goal}
use Rattle.raise_core.specs.Stack.{Stack, inside, walked, frames_within}
use Rattle.raise_core.specs.Asked.{verdict_of, target_at}
use Rattle.raise_core.specs.First.{stops, first_in}
use Rattle.raise_core.specs.Finds.{FindsIn}

pub stack_step : (n : ℕ) (s : State) (fdes : List Fde) (f : Frame) → frames_within (suc n) s fdes f ≡ inside f (walked (frames_within n s fdes) (next_frame s fdes f))
unfolding frames_within
stack_step n s fdes f = refl

-- a test of a frame in front of a list
passed : (s : State) (fdes : List Fde) (thrown : Thrown) (goal : Goal) (f : Frame) (fs : List Frame) (b : Bool) → stops fdes goal f (verdict_of s fdes thrown f) ≡ b →
    first_in s fdes thrown goal (f ∷ fs) ≡ (if b then Some f else first_in s fdes thrown goal fs)
passed s fdes thrown goal f fs b is = ap (λ t. if t then Some f else first_in s fdes thrown goal fs) is

-- past a frame at which the phase does not stop
behind : (s : State) (fdes : List Fde) (thrown : Thrown) (goal : Goal) (f : Frame) (stack : Stack) (found : Found) → stops fdes goal f (verdict_of s fdes thrown f) ≡ false →
    FindsIn s fdes thrown goal stack found → FindsIn s fdes thrown goal (inside f stack) found
behind s fdes thrown goal f stack (founds.At g) passes is = (passed s fdes thrown goal f stack.frames false passes ∙ is.0, is.1, is.2)
behind s fdes thrown goal f stack founds.EndOfStack passes is = (passed s fdes thrown goal f stack.frames false passes ∙ is.0, is.1)
behind s fdes thrown goal f stack (founds.Broken kind) passes is = (passed s fdes thrown goal f stack.frames false passes ∙ is.0, is.1)

-- at the frame itself
pub here : (n m : ℕ) (s : State) (fdes : List Fde) (thrown : Thrown) (goal : Goal) (f : Frame) (v : Verdict) (target : Option Target) (before : Option Landing) → n ≡ suc m →
    v ≡ verdict_of s fdes thrown f → target ≡ target_at fdes f → true ≡ stops fdes goal f v →
    FindsIn s fdes thrown goal (frames_within n s fdes f) (founds.At (record { frame = f; verdict = v; target = target; before = before }))
here n m s fdes thrown goal f v target before more is as_target meets =
    subst (λ stack. FindsIn s fdes thrown goal stack (founds.At (record { frame = f; verdict = v; target = target; before = before })))
    (sym (ap (λ k. frames_within k s fdes f) more ∙ stack_step m s fdes f))
    (passed s fdes thrown goal f (walked (frames_within m s fdes) (next_frame s fdes f)).frames true (ap (stops fdes goal f) (sym is) ∙ sym meets), is, as_target)

-- in the frames behind it, by what is outward
pub outward : (n m : ℕ) (s : State) (fdes : List Fde) (thrown : Thrown) (goal : Goal) (f : Frame) (v : Verdict) (w : Walk) (found : Found) → n ≡ suc m → v ≡ verdict_of s fdes thrown f →
    false ≡ stops fdes goal f v → w ≡ next_frame s fdes f → FindsIn s fdes thrown goal (walked (frames_within m s fdes) w) found →
    FindsIn s fdes thrown goal (frames_within n s fdes f) found
outward n m s fdes thrown goal f v w found more at passes is finds =
    subst (λ stack. FindsIn s fdes thrown goal stack found)
    (ap (λ x. inside f (walked (frames_within m s fdes) x)) is ∙ sym (ap (λ k. frames_within k s fdes f) more ∙ stack_step m s fdes f))
    (behind s fdes thrown goal f (walked (frames_within m s fdes) w) found (ap (stops fdes goal f) (sym at) ∙ sym passes) finds)

none_within : (s : State) (fdes : List Fde) (thrown : Thrown) (goal : Goal) (f : Frame) → FindsIn s fdes thrown goal (frames_within 0 s fdes f) (founds.Broken faults.Walk)
unfolding frames_within
none_within s fdes thrown goal f = (refl, refl)

-- after so many frames
pub given_up : (n : ℕ) (s : State) (fdes : List Fde) (thrown : Thrown) (goal : Goal) (f : Frame) → n ≡ 0 →
    FindsIn s fdes thrown goal (frames_within n s fdes f) (founds.Broken faults.Walk)
given_up n s fdes thrown goal f none =
    subst (λ k. FindsIn s fdes thrown goal (frames_within k s fdes f) (founds.Broken faults.Walk)) (sym none) (none_within s fdes thrown goal f)
