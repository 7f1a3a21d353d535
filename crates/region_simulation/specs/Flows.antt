-- That regions in a row do what statements do: how the flows of both agree, where so many regions hold them.
use Rattle.std.specs.Prelude.{◌≡◌, ℕ, ◌+◌, ◌-◌, ◌<◌, ◌≤◌, Bool, true, false, List, Option, Some, None, length}
use Rattle.meaning_forms.specs.World.{World as SourceWorld}
use Rattle.meaning_forms.specs.Context.{Context as SourceContext}
use Rattle.meaning_forms.specs.Frame.{Frame as SourceFrame}
use Rattle.meaning_forms.specs.Outcome.{Action as SourceAction, Flow as SourceFlow, normal as source_normal, breaks, continues, returns}
use Rattle.region_forms.specs.Form.{Region, regions_from}
use Rattle.region_forms.specs.World.{of_variable, number_word}
use Rattle.region_forms.specs.Outcome.{State, Flow, normal, leaves}
use Rattle.region_forms.specs.Ending.{Running}
use Rattle.linear_simulation.specs.Watched.{watched_all}
use Rattle.region_forms.specs.LowerExpression.{Lowering, result_slot}
use Rattle.region_forms.specs.LowerStatement.{variable_slot}
use Rattle.region_simulation.specs.Places.{Places, Stood}
use Rattle.region_simulation.specs.Reach.{is_in_reach, Reaches}
use Rattle.region_simulation.specs.Stands.{Stands, context_of}
use Rattle.region_simulation.specs.Alike.{Alike}

-- Flows of a source and of regions that d regions hold, of which the i-th from outside is that of the innermost loop: `break` goes to the end
-- of the loop, `continue` to the end of its body, the next region inside, and `return` out of all of them, with its value in the result's
-- slot. A value is returned where the function gives one, and only there.
abbrev pub FlowAgrees : Lowering → (gives : Bool) → (i d : ℕ) → SourceFlow → Flow → SourceWorld → Places → State → Type 0
FlowAgrees l gives i d source_normal flow w at s = flow ≡ normal
FlowAgrees l gives i d breaks flow w at s = flow ≡ leaves (d - i + 1)
FlowAgrees l gives i d continues flow w at s = flow ≡ leaves (d - i)
FlowAgrees l gives i d (returns None) flow w at s = (flow ≡ leaves d) × (gives ≡ false)
FlowAgrees l gives i d (returns (Some x)) flow w at s = (flow ≡ leaves d) × (gives ≡ true) × (s.frame.slots (result_slot l) ≡ number_word x)

-- What is in reach where the n-th variable is the next to be declared: it stands where the frame says, and is of variables before the n-th.
-- Nothing stands at a variable's slot from the n-th on: those of scopes that are left stand nowhere. The call that runs was made.
pub record InScope (l : Lowering) (own : Option ℕ) (n : ℕ) (at : Places) (v : SourceFrame) (s : State) : Type 0 where
  pub reach : Reaches l own at v s.frame
  pub before : (m : ℕ) → is_in_reach v.variables m ≡ true → m < n
  pub free : (o m : ℕ) (x : Stood) → at o ≡ Some x → x.base ≡ of_variable s.frame.call (variable_slot l m) → m < n
  pub there : n ≤ length l.variables
  pub running : s.frame.call < s.world.calls

-- Regions come out as an action does, in any world and state that stand for one another, where the same is in reach; the slots of the
-- variables before the n-th are kept.
abbrev pub DoesAlike : Lowering → (own : Option ℕ) → (gives : Bool) → Running → SourceFrame → SourceContext → (n i d : ℕ) → SourceAction SourceFlow → List Region → Type 0
DoesAlike l own gives b v c n i d act rs =
    (at : Places) (w : SourceWorld) (s : State) → Stands l.layout l.program at c w s → InScope l own n at v s
    → Alike l.layout l.program at (variable_slot l n) c w s (FlowAgrees l gives i d) (act w) (watched_all b (regions_from rs) (context_of w.open_calls c) s)
