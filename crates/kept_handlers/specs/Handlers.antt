-- What holds of the handlers that are open between two steps, and of what a specification stopped.
use Rattle.std.specs.Prelude.{◌≡◌, ⊤, ℕ, ◌+◌, ◌-◌, ◌≤◌, nat_le, true, if◌then◌else◌, List, [], ◌∷◌, Option, Some, None}
use Rattle.eh_outer.specs.declared.module.Reply.{Reply}
use Rattle.meaning_forms.specs.World.{Installed}
use Rattle.region_forms.specs.Caught.{Entry}
use Rattle.region_forms.specs.World.{World, native, object_address, address_in, exception_at}
use Rattle.region_forms.specs.Form.{Regions}
use Rattle.linear_forms.specs.Stub.{Function, compiled, end_catch, terminating, call_unexpected}
use Rattle.linear_forms.specs.Activation.{Activation, State, goes_to}
use Rattle.linear_forms.specs.Linear.{UnitCode}
use Rattle.linear_forms.specs.Machine.{step}
use Rattle.linear_forms.specs.Pace.{Leads}
use Rattle.linear_forms.specs.Unit.{unit_of}
use Rattle.linear_forms.specs.UnitRun.{code_of, first_state}
use Rattle.flight_homes.specs.Keeps.{Carrying}
use Rattle.flight_homes.specs.Lives.{known_in}
use Rattle.linear_invariant.specs.Calls.{unmarked, comes_back}
use Rattle.linear_invariant.specs.Code.{CodeFits}
use Rattle.linear_invariant.specs.Handled.{open_handlers, IsGiven}
use Rattle.linear_invariant.specs.Stands.{StandsIn}
use Rattle.kept_handlers.specs.Depths.{Depths, depth_at, CodeOpens}

-- the exception of the handler behind which so many older ones are open
abbrev pub handled_at : ℕ → List Entry → Option ℕ
handled_at k [] = None
handled_at k (x ∷ xs) = if nat_le (open_handlers xs) k then (if nat_le k (open_handlers xs + x.more) then Some x.number else None) else handled_at k xs

-- how many a call has open below one of a function: end_catch leaves one of its caller's
abbrev pub depth_below : Depths → Option Function → Activation → ℕ
depth_below d (Some end_catch) a = depth_at d a.function a.place - 1
depth_below d f a = depth_at d a.function a.place

-- What call_unexpected was given is of this language, and is handled by the handler that call_unexpected opened, behind which so many older ones are open.
pub record IsStopped (a : Activation) (older : ℕ) (w : World) : Type 0 where
  pub number : ℕ
  pub object : address_in (a.frame.slots 0) ≡ Some (object_address number)
  pub handled : handled_at older w.caught ≡ Some number
  pub type : ℕ
  pub destructor : Option ℕ
  pub kept : Installed
  pub native : exception_at w number ≡ native type destructor kept

-- so it is from its second operation on, up to where it leaves that handler
abbrev pub KeepsStopped : Function → Activation → ℕ → World → Type 0
KeepsStopped call_unexpected a older w = (1 ≤ a.place) → (a.place ≤ 15) → IsStopped a older w
KeepsStopped f a older w = ⊤

-- call_unexpected waits for a compiled function at its second operation alone, and for end_catch where it leaves its handlers
abbrev pub WaitsForHandler : Option Function → Activation → Type 0
WaitsForHandler (Some (compiled n)) a = a.function ≡ call_unexpected → a.place ≡ 1
WaitsForHandler (Some end_catch) a = a.function ≡ call_unexpected → 15 ≤ a.place
WaitsForHandler f a = ⊤

-- what waits goes on with no more handlers than there are
abbrev pub GoesOnWith : Depths → Option Function → Activation → Type 0
GoesOnWith d None a = ⊤
GoesOnWith d (Some f) a = comes_back f ≡ true → depth_at d a.function (a.place + 1) ≤ depth_below d (Some f) a

-- an open call below one of a function, where all have so many handlers at most, and those behind it so many
pub record CallOpens (d : Depths) (f : Option Function) (a : Activation) (most older : ℕ) (w : World) : Type 0 where
  pub few : older + depth_below d f a ≤ most
  pub stopped : KeepsStopped a.function a older w
  pub waits : WaitsForHandler f a
  pub goes_on : GoesOnWith d f a

-- Terminate never comes back, and nothing passes it: nothing is said below it.
abbrev pub UnlessEnding : Function → Type 0 → Type 0
UnlessEnding terminating X = ⊤
UnlessEnding f X = X

-- open calls below one of a function, which have so many handlers at most
abbrev pub HandlersStand : Depths → Function → List Activation → ℕ → World → Type 0
HandlersStand d f [] most w = ⊤
HandlersStand d f (a ∷ fs) most w = UnlessEnding f ((older : ℕ) × CallOpens d (Some f) a most older w × HandlersStand d a.function fs older w)

-- of a state
abbrev pub StateOpens : Depths → State → Type 0
StateOpens d st = (older : ℕ) × CallOpens d None st.top (open_handlers st.world.caught) older st.world × HandlersStand d st.top.function st.frames older st.world

-- each step keeps that
abbrev pub StepsKeepHandlers : Type 0
StepsKeepHandlers = (r : Regions) (k : Carrying) (d : Depths) (steps : ℕ) (st next : State) → let code = code_of (unit_of r) in CodeFits (known_in r) code k → CodeOpens code d → StandsIn (unmarked (known_in r)) code k steps st →
    StateOpens d st → step code st ≡ goes_to next → StateOpens d next

-- it holds in the state in which a program begins
abbrev pub FirstOpens : Type 0
FirstOpens = (u : UnitCode) (d : Depths) (input : List ℕ) (replies : List (List Reply)) → CodeOpens (code_of u) d → StateOpens d (first_state u input replies)

-- so it holds after any number of steps, from a state in which it does and from the first
abbrev pub LeadsOpen : Type 0
LeadsOpen = (r : Regions) (k : Carrying) (d : Depths) (before n : ℕ) (st next : State) → let code = code_of (unit_of r) in CodeFits (known_in r) code k → CodeOpens code d → StandsIn (unmarked (known_in r)) code k before st →
    StateOpens d st → Leads code n st (goes_to next) → StateOpens d next

abbrev pub RunsOpen : Type 0
RunsOpen = (r : Regions) (k : Carrying) (d : Depths) (input : List ℕ) (replies : List (List Reply)) (n : ℕ) (st : State) → let code = code_of (unit_of r) in CodeFits (known_in r) code k → CodeOpens code d →
    let first = first_state (unit_of r) input replies in IsGiven first.world → Leads code n first (goes_to st) → StateOpens d st

-- Where a function of the program comes back to call_unexpected, that waits at its second operation with what was stopped.
abbrev pub ReturnsToStopped : Type 0
ReturnsToStopped = (d : Depths) (st : State) (n : ℕ) (a : Activation) (fs : List Activation) → StateOpens d st → st.top.function ≡ compiled n → st.frames ≡ a ∷ fs → a.function ≡ call_unexpected →
    (a.place ≡ 1) × (older : ℕ) × IsStopped a older st.world

-- So it is where call_unexpected runs itself, as long as it keeps what was stopped.
abbrev pub RunsWithStopped : Type 0
RunsWithStopped = (d : Depths) (st : State) → StateOpens d st → st.top.function ≡ call_unexpected → 1 ≤ st.top.place → st.top.place ≤ 15 → (older : ℕ) × IsStopped st.top older st.world
