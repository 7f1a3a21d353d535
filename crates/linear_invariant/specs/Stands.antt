-- What holds of every state between two steps of the machine for linear code.
use Rattle.std.specs.Prelude.{◌≡◌, ℕ, ◌+◌, ◌<◌, true, List, ◌∷◌, length, ℤ, Some, None}
use Rattle.eh_outer.specs.declared.module.Reply.{Reply}
use Rattle.region_forms.specs.Form.{Op, Regions}
use Rattle.region_forms.specs.Ending.{bad_row}
use Rattle.region_forms.specs.WellFormed.{is_well_formed}
use Rattle.region_forms.specs.World.{flying, unwinding, World, type_at}
use Rattle.region_forms.specs.Effect.{raises, cancels, effect}
use Rattle.linear_forms.specs.Linear.{plain}
use Rattle.linear_forms.specs.Stub.{linear}
use Rattle.linear_forms.specs.Defined.{RunsAt}
use Rattle.linear_forms.specs.Search.{found}
use Rattle.linear_forms.specs.Activation.{Code, State, goes_to, kinds, look}
use Rattle.linear_forms.specs.Machine.{step}
use Rattle.linear_forms.specs.Pace.{Leads}
use Rattle.linear_forms.specs.Unit.{unit_of}
use Rattle.linear_forms.specs.UnitRun.{code_of, first_state}
use Rattle.flight_homes.specs.Keeps.{Carrying}
use Rattle.flight_homes.specs.Laws.{AreCarrying}
use Rattle.flight_homes.specs.Lives.{WorldKnown, CodeKnown, anything, known_in}
use Rattle.flight_homes.specs.OpenCalls.{CallsStand}
use Rattle.flight_homes.specs.WholeCalls.{CallsWhole}
use Rattle.linear_invariant.specs.Handled.{IsGiven, WorldKeeps}
use Rattle.linear_invariant.specs.Calls.{Marks, unmarked, CallsKeep}
use Rattle.linear_invariant.specs.Code.{CodeFits}

-- What a step may put into a pad is marked: an exception that its operation raises, with its target, and a forced unwind that it begins.
pub record NewMarked (marks : Marks) (code : Code) (st : State) : Type 0 where
  pub raised : (o : Op) (e : ℕ) (v : World) (d : ℕ) → RunsAt code st (linear (plain o)) → effect (kinds code st.top.function) o st.top.frame st.world ≡ raises e v →
      found code st.top.function (look code st.top.function st.top.place) (type_at v e) st.frames ≡ Some d → marks.words (flying e d)
  pub cancelled : (o : Op) (z : ℤ) (v : World) → RunsAt code st (linear (plain o)) → effect (kinds code st.top.function) o st.top.frame st.world ≡ cancels z v → marks.words (unwinding z)

-- After so many steps: how the open calls stand on one another; what live exceptions and handlers name; that slots for help have objects as a whole; what
-- each open call keeps of exceptions; and what is handled.
pub record StandsIn (marks : Marks) (code : Code) (k : Carrying) (steps : ℕ) (st : State) : Type 0 where
  pub stand : CallsStand st
  pub lives : WorldKnown marks.known st.world
  pub whole : CallsWhole code (st.top ∷ st.frames)
  pub calls : CallsKeep code k marks None (st.top ∷ st.frames) st.world
  pub world : WorldKeeps steps st.world

-- each step that is made keeps that
abbrev pub StepsStand : Type 0
StepsStand = (r : Regions) (k : Carrying) (steps : ℕ) (st next : State) → CodeFits (known_in r) (code_of (unit_of r)) k → StandsIn (unmarked (known_in r)) (code_of (unit_of r)) k steps st →
    step (code_of (unit_of r)) st ≡ goes_to next → StandsIn (unmarked (known_in r)) (code_of (unit_of r)) k (steps + 1) next

-- Every well-formed program is as asked, where what installs handlers is given functions.
abbrev pub ProgramsFit : Type 0
ProgramsFit = (r : Regions) → is_well_formed r ≡ true → bad_row < length r.types → CodeKnown anything (code_of (unit_of r)) → (k : Carrying) × (AreCarrying r k × CodeFits (known_in r) (code_of (unit_of r)) k)

-- It holds of the state in which a program begins, where what is given to it is as said.
abbrev pub FirstStatesStand : Type 0
FirstStatesStand = (r : Regions) (k : Carrying) (input : List ℕ) (replies : List (List Reply)) → CodeFits (known_in r) (code_of (unit_of r)) k → let first = first_state (unit_of r) input replies in
    IsGiven first.world → StandsIn (unmarked (known_in r)) (code_of (unit_of r)) k 0 first

-- so it holds after any number of steps, from a state in which it does and from the first
abbrev pub LeadsStand : Type 0
LeadsStand = (r : Regions) (k : Carrying) (before n : ℕ) (st next : State) → CodeFits (known_in r) (code_of (unit_of r)) k → StandsIn (unmarked (known_in r)) (code_of (unit_of r)) k before st →
    Leads (code_of (unit_of r)) n st (goes_to next) → StandsIn (unmarked (known_in r)) (code_of (unit_of r)) k (before + n) next

abbrev pub RunsStand : Type 0
RunsStand = (r : Regions) (k : Carrying) (input : List ℕ) (replies : List (List Reply)) (n : ℕ) (st : State) → CodeFits (known_in r) (code_of (unit_of r)) k → let first = first_state (unit_of r) input replies in
    IsGiven first.world → Leads (code_of (unit_of r)) n first (goes_to st) → StandsIn (unmarked (known_in r)) (code_of (unit_of r)) k n st
