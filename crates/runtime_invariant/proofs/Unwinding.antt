-- The unwinder writes no memory.
use Rattle.std.proofs.Common.{◌≡◌, refl, ℕ, Bool, true, false, Option, Some, None, List}
use Rattle.rv64_isa.specs.State.{State}
use Rattle.table_forms.specs.Fde.{Fde}
use Rattle.table_forms.specs.Verdict.{Thrown, forced}
use Rattle.table_forms.specs.declared.found.Verdict.{Verdict}
use Rattle.table_forms.specs.declared.found.Verdict.TheVariants as verdicts
use Rattle.frame_walk.specs.declared.frame.Frame.{Frame}
use Rattle.raise_core.specs.declared.asked.Target.{Target}
use Rattle.raise_core.specs.declared.goal.Goal.TheVariants as goals
use Rattle.raise_core.specs.Asked.{verdict_of, target_at}
use Rattle.raise_core.specs.First.{is_at, first_of}
use Rattle.raise_core.specs.Stack.{Ending, end_of_stack, broken, frames}
use Rattle.raise_core.specs.Raise.{Outcome, enters, stops_at, ended, entered, entered_by, towards, raised_to, raise, arrives, at_cfa, goes_on, resumed_to, resume, forced_to, forced_unwind}

abbrev Leaves : State → Outcome → Type 0
Leaves s o = o.1.memory ≡ s.memory

enters_leaves : (s : State) (f : Frame) (target : Target) (v : Verdict) → Leaves s (enters s f target v)
enters_leaves s f target verdicts.Nothing = refl
enters_leaves s f target (verdicts.Cleanup pad) = refl
enters_leaves s f target (verdicts.Handler pad selector) = refl
enters_leaves s f target (verdicts.Spec pad selector) = refl
enters_leaves s f target verdicts.Terminate = refl

stops_leaves : (s : State) (f : Frame) (target : Target) (v : Verdict) → Leaves s (stops_at s f target v)
stops_leaves s f target verdicts.Nothing = refl
stops_leaves s f target (verdicts.Cleanup pad) = refl
stops_leaves s f target (verdicts.Handler pad selector) = refl
stops_leaves s f target (verdicts.Spec pad selector) = refl
stops_leaves s f target verdicts.Terminate = refl

ended_leaves : (s : State) (e : Ending) → Leaves s (ended e s)
ended_leaves s end_of_stack = refl
ended_leaves s (broken kind) = refl

-- ---- a raise

entered_leaves : (s : State) (fdes : List Fde) (thrown : Thrown) (target : Option Target) → Leaves s (entered s fdes thrown target)
entered_leaves s fdes thrown None = refl
entered_leaves s fdes thrown (Some target) = by (first_of s fdes thrown goals.Pad)
  where
    by : (f : Option Frame) → Leaves s (entered_by s fdes thrown target f)
    by None = refl
    by (Some f) = enters_leaves s f target (verdict_of s fdes thrown f)

towards_leaves : (s : State) (fdes : List Fde) (thrown : Thrown) (f : Frame) (v : Verdict) → Leaves s (towards s fdes thrown f v)
towards_leaves s fdes thrown f verdicts.Nothing = entered_leaves s fdes thrown (target_at fdes f)
towards_leaves s fdes thrown f (verdicts.Cleanup pad) = entered_leaves s fdes thrown (target_at fdes f)
towards_leaves s fdes thrown f (verdicts.Handler pad selector) = entered_leaves s fdes thrown (target_at fdes f)
towards_leaves s fdes thrown f (verdicts.Spec pad selector) = entered_leaves s fdes thrown (target_at fdes f)
towards_leaves s fdes thrown f verdicts.Terminate = refl

pub raise_leaves : (fdes : List Fde) (thrown : Thrown) (s : State) → (raise fdes thrown s).1.memory ≡ s.memory
unfolding raise
raise_leaves fdes thrown s = by (first_of s fdes thrown goals.Target)
  where
    by : (f : Option Frame) → Leaves s (raised_to s fdes thrown f)
    by None = ended_leaves s (frames s fdes).ending
    by (Some f) = towards_leaves s fdes thrown f (verdict_of s fdes thrown f)

-- ---- a raise that goes on

arrives_leaves : (s : State) (f : Frame) (target : Target) (v : Verdict) → Leaves s (arrives s f target v)
arrives_leaves s f target verdicts.Nothing = refl
arrives_leaves s f target (verdicts.Cleanup pad) = refl
arrives_leaves s f target (verdicts.Handler pad selector) = refl
arrives_leaves s f target (verdicts.Spec pad selector) = refl
arrives_leaves s f target verdicts.Terminate = refl

goes_on_leaves : (s : State) (f : Frame) (b : Bool) (target : Target) (v : Verdict) → Leaves s (goes_on s f b target v)
goes_on_leaves s f true target v = arrives_leaves s f target v
goes_on_leaves s f false target v = stops_leaves s f target v

pub resume_leaves : (fdes : List Fde) (thrown : Thrown) (cfa : ℕ) (s : State) → (resume fdes thrown cfa s).1.memory ≡ s.memory
unfolding resume
resume_leaves fdes thrown cfa s = by (first_of s fdes thrown (goals.UpTo cfa))
  where
    by : (f : Option Frame) → Leaves s (resumed_to s fdes thrown cfa f)
    by None = refl
    by (Some f) = goes_on_leaves s f (is_at fdes cfa f) (at_cfa cfa) (verdict_of s fdes thrown f)

-- ---- a forced unwind

pub forced_leaves : (fdes : List Fde) (s : State) → (forced_unwind fdes s).1.memory ≡ s.memory
unfolding forced_unwind
forced_leaves fdes s = by (first_of s fdes forced goals.Cleanup)
  where
    by : (f : Option Frame) → Leaves s (forced_to s fdes f)
    by None = ended_leaves s (frames s fdes).ending
    by (Some f) = stops_leaves s f (at_cfa 0) (verdict_of s fdes forced f)
