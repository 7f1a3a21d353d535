-- What a search for a frame gives.
use Rattle.std.specs.Prelude.{◌≡◌, ⊤, true, List, Option, Some, None}
use Rattle.table_forms.specs.Fde.{Fde}
use Rattle.table_forms.specs.Verdict.{Thrown}
use Rattle.rv64_isa.specs.State.{State}
use Rattle.raise_core.specs.declared.found.Found.{Found}
use Rattle.raise_core.specs.declared.found.Found.TheVariants as founds
use Rattle.raise_core.specs.declared.found.Landing.{Landing}
use Rattle.raise_core.specs.declared.found.Stop.{Stop}
use Rattle.raise_core.specs.declared.goal.Goal.{Goal}
use Rattle.raise_core.specs.declared.goal.Goal.TheVariants as goals
use Rattle.raise_core.specs.Stack.{Stack, end_of_stack, broken, frames}
use Rattle.raise_core.specs.Asked.{verdict_of, target_at}
use Rattle.raise_core.specs.First.{has_pad, first_in, first_of}

-- among the frames of a stack: the first, with its verdict and itself as a target, or how they end
abbrev pub FindsIn : State → List Fde → Thrown → Goal → Stack → Found → Type 0
FindsIn s fdes thrown goal stack (founds.At stop) =
    (first_in s fdes thrown goal stack.frames ≡ Some stop.frame) × (stop.verdict ≡ verdict_of s fdes thrown stop.frame) × (stop.target ≡ target_at fdes stop.frame)
FindsIn s fdes thrown goal stack founds.EndOfStack = (first_in s fdes thrown goal stack.frames ≡ None) × (stack.ending ≡ end_of_stack)
FindsIn s fdes thrown goal stack (founds.Broken kind) = (first_in s fdes thrown goal stack.frames ≡ None) × (stack.ending ≡ broken kind)

abbrev pub FindsFrame : State → List Fde → Thrown → Goal → Found → Type 0
FindsFrame s fdes thrown goal found = FindsIn s fdes thrown goal (frames s fdes) found

-- the first landing that was kept, or else this one
abbrev pub landing_or : Option Landing → Landing → Landing
landing_or (Some kept) landing = kept
landing_or None landing = landing

-- where control lands on the way to the frame at which a search stops
abbrev pub landing_of : Stop → Landing
landing_of stop = landing_or stop.before (record { frame = stop.frame; verdict = stop.verdict })

-- it is the first of all frames with a pad
abbrev pub IsFirstPad : State → List Fde → Thrown → Landing → Type 0
IsFirstPad s fdes thrown landing = (first_of s fdes thrown goals.Pad ≡ Some landing.frame) × (landing.verdict ≡ verdict_of s fdes thrown landing.frame)

-- a search that stops at a frame with a pad has kept the first one, so that phase two need not walk again
abbrev pub KeepsFirstPad : State → List Fde → Thrown → Found → Type 0
KeepsFirstPad s fdes thrown (founds.At stop) = has_pad stop.verdict ≡ true → IsFirstPad s fdes thrown (landing_of stop)
KeepsFirstPad s fdes thrown _ = ⊤
