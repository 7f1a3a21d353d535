-- The search keeps the first frame with a pad: one walk gives what both phases find.
use Rattle.std.proofs.Common.{◌≡◌, ℕ, suc, Bool, true, false, List, Option, Some, None, refl, ap, sym, subst, ◌∙◌, if◌then◌else◌}
use Rattle.std.specs.Prelude.{IfSome}
use Rattle.table_forms.specs.declared.found.Verdict.{Verdict}
use Rattle.table_forms.specs.Fde.{Fde}
use Rattle.table_forms.specs.Verdict.{Thrown}
use Rattle.rv64_isa.specs.State.{State}
use Rattle.frame_walk.specs.declared.frame.Frame.{Frame}
use Rattle.frame_walk.specs.declared.frame.Walk.{Walk}
use Rattle.frame_walk.specs.Outward.{next_frame}
use Rattle.raise_core.specs.declared.found.Landing.{Landing}
use Rattle.raise_core.specs.declared.goal.Goal.TheVariants as goals
use Rattle.raise_core.specs.Stack.{Stack, inside, walked, frames_within, frames}
use Rattle.raise_core.specs.Asked.{verdict_of}
use Rattle.raise_core.specs.First.{has_pad, first_in, first_of}
use Rattle.raise_core.specs.Finds.{IsFirstPad, landing_or}
use Rattle.raise_core.specs.Landings.{kept_or}
use Rattle.raise_core.proofs.Walks.{stack_step}

-- the frame that was kept, or else the first of those that are left
abbrev pub kept_first : Option Landing → Option Frame → Option Frame
kept_first (Some kept) first = Some kept.frame
kept_first None first = first

-- what is kept so far, with the frames from one outward, gives the first of all frames with a pad
pub record KeepsSoFar (s : State) (fdes : List Fde) (thrown : Thrown) (kept : Option Landing) (stack : Stack) : Type 0 where
  pub first : kept_first kept (first_in s fdes thrown goals.Pad stack.frames) ≡ first_of s fdes thrown goals.Pad
  pub verdict : IfSome kept (λ landing. landing.verdict ≡ verdict_of s fdes thrown landing.frame)

-- past a frame, which is kept if it is the first with a pad
behind : (s : State) (fdes : List Fde) (thrown : Thrown) (kept : Option Landing) (f : Frame) (v : Verdict) (stack : Stack) → v ≡ verdict_of s fdes thrown f → KeepsSoFar s fdes thrown kept (inside f stack) →
    KeepsSoFar s fdes thrown (kept_or kept (has_pad v) (record { frame = f; verdict = v })) stack
behind s fdes thrown (Some landing) f v stack is so_far = record { first = so_far.first; verdict = so_far.verdict }
behind s fdes thrown None f v stack is so_far = by (has_pad v) refl
  where
    passed : (b : Bool) → has_pad v ≡ b → (if b then Some f else first_in s fdes thrown goals.Pad stack.frames) ≡ first_of s fdes thrown goals.Pad
    passed b test = ap (λ t. if t then Some f else first_in s fdes thrown goals.Pad stack.frames) (sym test ∙ ap has_pad is) ∙ so_far.first

    by : (b : Bool) → has_pad v ≡ b → KeepsSoFar s fdes thrown (if b then Some (record { frame = f; verdict = v }) else None) stack
    by true test = record { first = passed true test; verdict = is }
    by false test = record { first = passed false test; verdict = tt }

-- in the frames from one on
pub kept_behind : (n m : ℕ) (s : State) (fdes : List Fde) (thrown : Thrown) (kept new : Option Landing) (f : Frame) (v : Verdict) (w : Walk) → n ≡ suc m → v ≡ verdict_of s fdes thrown f → w ≡ next_frame s fdes f →
    new ≡ kept_or kept (has_pad v) (record { frame = f; verdict = v }) → KeepsSoFar s fdes thrown kept (frames_within n s fdes f) → KeepsSoFar s fdes thrown new (walked (frames_within m s fdes) w)
kept_behind n m s fdes thrown kept new f v w more at is keeps so_far =
    subst (λ k. KeepsSoFar s fdes thrown k (walked (frames_within m s fdes) w)) (sym keeps)
    (behind s fdes thrown kept f v (walked (frames_within m s fdes) w) at
    (subst (λ stack. KeepsSoFar s fdes thrown kept stack) (ap (λ k. frames_within k s fdes f) more ∙ stack_step m s fdes f ∙ ap (λ x. inside f (walked (frames_within m s fdes) x)) (sym is)) so_far))

-- at a frame with a pad
at_pad : (s : State) (fdes : List Fde) (thrown : Thrown) (kept : Option Landing) (f : Frame) (v : Verdict) (stack : Stack) → v ≡ verdict_of s fdes thrown f → has_pad v ≡ true →
    KeepsSoFar s fdes thrown kept (inside f stack) → IsFirstPad s fdes thrown (landing_or kept (record { frame = f; verdict = v }))
at_pad s fdes thrown (Some landing) f v stack is pad so_far = (sym so_far.first, so_far.verdict)
at_pad s fdes thrown None f v stack is pad so_far =
    (sym so_far.first ∙ ap (λ t. if t then Some f else first_in s fdes thrown goals.Pad stack.frames) (sym (ap has_pad is) ∙ pad), is)

pub kept_here : (n m : ℕ) (s : State) (fdes : List Fde) (thrown : Thrown) (kept : Option Landing) (f : Frame) (v : Verdict) → n ≡ suc m → v ≡ verdict_of s fdes thrown f → has_pad v ≡ true →
    KeepsSoFar s fdes thrown kept (frames_within n s fdes f) → IsFirstPad s fdes thrown (landing_or kept (record { frame = f; verdict = v }))
kept_here n m s fdes thrown kept f v more is pad so_far =
    at_pad s fdes thrown kept f v (walked (frames_within m s fdes) (next_frame s fdes f)) is pad
    (subst (λ stack. KeepsSoFar s fdes thrown kept stack) (ap (λ k. frames_within k s fdes f) more ∙ stack_step m s fdes f) so_far)

-- before the first frame
pub all_left : (s : State) (fdes : List Fde) (thrown : Thrown) → KeepsSoFar s fdes thrown None (frames s fdes)
all_left s fdes thrown = record { first = refl; verdict = tt }
