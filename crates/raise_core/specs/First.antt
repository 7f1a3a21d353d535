-- The first frame at which a phase stops.
use Rattle.std.specs.Prelude.{ℕ, ◌==◌, ◌||◌, Bool, true, false, List, find, Option, Some, None}
use Rattle.table_forms.specs.declared.found.Verdict.{Verdict}
use Rattle.table_forms.specs.declared.found.Verdict.TheVariants as verdicts
use Rattle.table_forms.specs.Fde.{Fde}
use Rattle.table_forms.specs.Verdict.{Thrown}
use Rattle.rv64_isa.specs.State.{State}
use Rattle.frame_walk.specs.declared.frame.Frame.{Frame}
use Rattle.raise_core.specs.declared.asked.Target.{Target}
use Rattle.raise_core.specs.declared.goal.Goal.{Goal}
use Rattle.raise_core.specs.declared.goal.Goal.TheVariants as goals
use Rattle.raise_core.specs.Stack.{frames}
use Rattle.raise_core.specs.Asked.{verdict_of, target_at}

-- the exception goes no farther than this frame
abbrev pub is_target : Verdict → Bool
is_target (verdicts.Handler pad selector) = true
is_target (verdicts.Spec pad selector) = true
is_target verdicts.Terminate = true
is_target _ = false

-- the frame has a landing pad for it
abbrev pub has_pad : Verdict → Bool
has_pad (verdicts.Cleanup pad) = true
has_pad (verdicts.Handler pad selector) = true
has_pad (verdicts.Spec pad selector) = true
has_pad _ = false

-- it passes by no cleanup, and by no frame that ends the program
abbrev pub is_unpassable : Verdict → Bool
is_unpassable (verdicts.Cleanup pad) = true
is_unpassable verdicts.Terminate = true
is_unpassable _ = false

-- the frame is the one with this canonical frame address
abbrev pub is_with_cfa : ℕ → Option Target → Bool
is_with_cfa cfa None = false
is_with_cfa cfa (Some target) = target.cfa == cfa

abbrev pub is_at : List Fde → ℕ → Frame → Bool
is_at fdes cfa f = is_with_cfa cfa (target_at fdes f)

-- a phase stops at a frame with this verdict
abbrev pub stops : List Fde → Goal → Frame → Verdict → Bool
stops fdes goals.Target f v = is_target v
stops fdes goals.Pad f v = has_pad v
stops fdes goals.Cleanup f v = is_unpassable v
stops fdes (goals.UpTo cfa) f v = is_at fdes cfa f || is_unpassable v

abbrev pub first_in : State → List Fde → Thrown → Goal → List Frame → Option Frame
first_in s fdes thrown goal fs = find (λ f. stops fdes goal f (verdict_of s fdes thrown f)) fs

-- the first of all frames
abbrev pub first_of : State → List Fde → Thrown → Goal → Option Frame
first_of s fdes thrown goal = first_in s fdes thrown goal (frames s fdes).frames
