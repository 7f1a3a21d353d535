-- An outcome changes nothing, or control enters one of the frames.
use Rattle.std.proofs.Common.{◌≡◌, ℕ, Bool, true, false, List, Option, Some, None, refl, sym, subst, arith, Contains}
use Rattle.std.specs.Prelude.{ℤ, pos}
use Rattle.table_forms.specs.declared.found.Verdict.{Verdict}
use Rattle.table_forms.specs.declared.found.Verdict.TheVariants as verdicts
use Rattle.table_forms.specs.Fde.{Fde}
use Rattle.table_forms.specs.Verdict.{Thrown, forced}
use Rattle.rv64_isa.specs.State.{State}
use Rattle.frame_read.proofs.Members.{find_in, in_contains}
use Rattle.frame_walk.specs.declared.frame.Frame.{Frame}
use Rattle.raise_core.specs.declared.asked.Target.{Target}
use Rattle.raise_core.specs.declared.goal.Goal.{Goal}
use Rattle.raise_core.specs.declared.goal.Goal.TheVariants as goals
use Rattle.raise_core.specs.Stack.{Ending, end_of_stack, broken, frames}
use Rattle.raise_core.specs.Asked.{verdict_of, target_at}
use Rattle.raise_core.specs.First.{is_at, stops, first_of}
use Rattle.raise_core.specs.Entered.{EntersOrStays}
use Rattle.raise_core.specs.Raise.{Outcome, ended, installs, enters, entered_by, entered, towards, raised_to, raise, at_cfa, arrives, stops_at, goes_on, resumed_to, resume, forced_to, forced_unwind}
use Rattle.raise_core.proofs.Registers.{values_set}

-- what an outcome does among some frames: no memory changes
abbrev pub Does : List Frame → State → Outcome → Type 0
Does fs s (answer, after) = EntersOrStays fs answer s after × (after.memory ≡ s.memory)

pub same_outcome : (fs : List Frame) (s : State) (o p : Outcome) → o ≡ p → Does fs s p → Does fs s o
same_outcome fs s o p e does = subst (λ q. Does fs s q) (sym e) does

by_install : (fs : List Frame) (s : State) (f : Frame) (target : Target) (pad : ℕ) (selector : ℤ) → Contains fs f → Does fs s (installs s f target pad selector)
by_install fs s f target pad selector stands = (
  λ many. record {
    frame = f;
    stands = stands;
    at = refl;
    registers = λ n some below. values_set 32 0 n f.regs s.regs some (omega arith) (omega (arith, below)) (omega (arith, many));
  },
  refl,
)

by_enter : (fs : List Frame) (s : State) (f : Frame) (target : Target) (v : Verdict) → Contains fs f → Does fs s (enters s f target v)
by_enter fs s f target (verdicts.Cleanup pad) stands = by_install fs s f target pad (pos 0) stands
by_enter fs s f target (verdicts.Handler pad selector) stands = by_install fs s f target pad selector stands
by_enter fs s f target (verdicts.Spec pad selector) stands = by_install fs s f target pad selector stands
by_enter fs s f target verdicts.Nothing stands = (refl, refl)
by_enter fs s f target verdicts.Terminate stands = (refl, refl)

by_stop : (fs : List Frame) (s : State) (f : Frame) (target : Target) (v : Verdict) → Contains fs f → Does fs s (stops_at s f target v)
by_stop fs s f target verdicts.Terminate stands = (refl, refl)
by_stop fs s f target (verdicts.Cleanup pad) stands = by_enter fs s f target (verdicts.Cleanup pad) stands
by_stop fs s f target (verdicts.Handler pad selector) stands = by_enter fs s f target (verdicts.Handler pad selector) stands
by_stop fs s f target (verdicts.Spec pad selector) stands = by_enter fs s f target (verdicts.Spec pad selector) stands
by_stop fs s f target verdicts.Nothing stands = (refl, refl)

by_ending : (fs : List Frame) (s : State) (e : Ending) → Does fs s (ended e s)
by_ending fs s end_of_stack = (refl, refl)
by_ending fs s (broken kind) = (refl, refl)

-- the first of all frames is one of them
first_stands : (s : State) (fdes : List Fde) (thrown : Thrown) (goal : Goal) (f : Frame) → first_of s fdes thrown goal ≡ Some f → Contains (frames s fdes).frames f
first_stands s fdes thrown goal f e =
    let found = find_in (λ g. stops fdes goal g (verdict_of s fdes thrown g)) (frames s fdes).frames f e in in_contains (frames s fdes).frames f found.0

by_first : (s : State) (fdes : List Fde) (thrown : Thrown) (target : Target) (o : Option Frame) → ((f : Frame) → o ≡ Some f → Contains (frames s fdes).frames f) →
    Does (frames s fdes).frames s (entered_by s fdes thrown target o)
by_first s fdes thrown target None stands = (refl, refl)
by_first s fdes thrown target (Some f) stands = by_enter (frames s fdes).frames s f target (verdict_of s fdes thrown f) (stands f refl)

by_target : (s : State) (fdes : List Fde) (thrown : Thrown) (o : Option Target) → Does (frames s fdes).frames s (entered s fdes thrown o)
by_target s fdes thrown None = (refl, refl)
by_target s fdes thrown (Some target) = by_first s fdes thrown target (first_of s fdes thrown goals.Pad) (first_stands s fdes thrown goals.Pad)

by_verdict : (s : State) (fdes : List Fde) (thrown : Thrown) (f : Frame) (v : Verdict) → Does (frames s fdes).frames s (towards s fdes thrown f v)
by_verdict s fdes thrown f verdicts.Terminate = (refl, refl)
by_verdict s fdes thrown f (verdicts.Cleanup pad) = by_target s fdes thrown (target_at fdes f)
by_verdict s fdes thrown f (verdicts.Handler pad selector) = by_target s fdes thrown (target_at fdes f)
by_verdict s fdes thrown f (verdicts.Spec pad selector) = by_target s fdes thrown (target_at fdes f)
by_verdict s fdes thrown f verdicts.Nothing = by_target s fdes thrown (target_at fdes f)

pub raise_does : (s : State) (fdes : List Fde) (thrown : Thrown) → Does (frames s fdes).frames s (raise fdes thrown s)
unfolding raise
raise_does s fdes thrown = by (first_of s fdes thrown goals.Target)
  where
    by : (o : Option Frame) → Does (frames s fdes).frames s (raised_to s fdes thrown o)
    by None = by_ending (frames s fdes).frames s (frames s fdes).ending
    by (Some f) = by_verdict s fdes thrown f (verdict_of s fdes thrown f)

by_arrival : (fs : List Frame) (s : State) (f : Frame) (target : Target) (v : Verdict) → Contains fs f → Does fs s (arrives s f target v)
by_arrival fs s f target (verdicts.Cleanup pad) stands = (refl, refl)
by_arrival fs s f target verdicts.Terminate stands = (refl, refl)
by_arrival fs s f target (verdicts.Handler pad selector) stands = by_enter fs s f target (verdicts.Handler pad selector) stands
by_arrival fs s f target (verdicts.Spec pad selector) stands = by_enter fs s f target (verdicts.Spec pad selector) stands
by_arrival fs s f target verdicts.Nothing stands = (refl, refl)

by_cfa : (fs : List Frame) (s : State) (cfa : ℕ) (f : Frame) (v : Verdict) (b : Bool) → Contains fs f → Does fs s (goes_on s f b (at_cfa cfa) v)
by_cfa fs s cfa f v true stands = by_arrival fs s f (at_cfa cfa) v stands
by_cfa fs s cfa f v false stands = by_stop fs s f (at_cfa cfa) v stands

pub resume_does : (s : State) (fdes : List Fde) (thrown : Thrown) (cfa : ℕ) → Does (frames s fdes).frames s (resume fdes thrown cfa s)
unfolding resume
resume_does s fdes thrown cfa = by (first_of s fdes thrown (goals.UpTo cfa)) (first_stands s fdes thrown (goals.UpTo cfa))
  where
    by : (o : Option Frame) → ((f : Frame) → o ≡ Some f → Contains (frames s fdes).frames f) → Does (frames s fdes).frames s (resumed_to s fdes thrown cfa o)
    by None stands = (refl, refl)
    by (Some f) stands = by_cfa (frames s fdes).frames s cfa f (verdict_of s fdes thrown f) (is_at fdes cfa f) (stands f refl)

pub forced_does : (s : State) (fdes : List Fde) → Does (frames s fdes).frames s (forced_unwind fdes s)
unfolding forced_unwind
forced_does s fdes = by (first_of s fdes forced goals.Cleanup) (first_stands s fdes forced goals.Cleanup)
  where
    by : (o : Option Frame) → ((f : Frame) → o ≡ Some f → Contains (frames s fdes).frames f) → Does (frames s fdes).frames s (forced_to s fdes o)
    by None stands = by_ending (frames s fdes).frames s (frames s fdes).ending
    by (Some f) stands = by_stop (frames s fdes).frames s f (at_cfa 0) (verdict_of s fdes forced f) (stands f refl)
