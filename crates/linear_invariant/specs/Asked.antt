-- What single operations ask of the state follows from what holds between two steps.
use Rattle.std.specs.Prelude.{◌≡◌, ℕ, ◌≤◌, ℤ, true, false, List, ◌∷◌, Option, Some, None}
use Rattle.meaning_forms.specs.Class.{contains}
use Rattle.region_forms.specs.Form.{Regions, throw, enter, leave}
use Rattle.region_forms.specs.Caught.{Entry}
use Rattle.region_forms.specs.Lives.{is_live, is_being_built, can_travel, may_enter}
use Rattle.region_forms.specs.World.{number_word, flying, object_address, address_in, exception_in_slot, exception_at, type_at}
use Rattle.linear_forms.specs.Linear.{plain, jump_filter, free, resume, unexpected}
use Rattle.linear_forms.specs.Stub.{compiled, end_catch, linear}
use Rattle.linear_forms.specs.Activation.{Code, Activation, State, fetch}
use Rattle.linear_forms.specs.Machine.{step}
use Rattle.linear_forms.specs.Defined.{IsDefined, RunsAt}
use Rattle.linear_forms.specs.Unit.{unit_of}
use Rattle.linear_forms.specs.UnitRun.{code_of}
use Rattle.exceptions_in_flight.specs.Targets.{AimsAt, HasTarget}
use Rattle.flight_homes.specs.Keeps.{Carrying, TravelsAgain, destroyed_in, gone}
use Rattle.flight_homes.specs.Lives.{Known, ExceptionKnown, known_in}
use Rattle.flight_homes.specs.Whole.{IsCaught}
use Rattle.linear_invariant.specs.Held.{NoneHolds}
use Rattle.linear_invariant.specs.Handled.{Unhandled, open_handlers, IsGone}
use Rattle.flight_homes.specs.Nest.{is_called_by}
use Rattle.linear_invariant.specs.Calls.{unmarked, HasDestructor}
use Rattle.linear_invariant.specs.Code.{CodeFits}
use Rattle.linear_invariant.specs.Stands.{StandsIn}

-- a slot has the object of an exception itself, and no older call waits for the destructor of that or has it on its way
pub record HasWhole (k : Carrying) (st : State) (s e : ℕ) : Type 0 where
  pub object : address_in (st.top.frame.slots s) ≡ Some (object_address e)
  pub whole : contains (gone st.frames) e ≡ false
  pub unheld : NoneHolds k (Some st.top.function) st.frames e

-- Where an exception is thrown: it is being built, no handler has it, and what it is thrown as is known.
pub record ThrowAsked (known : Known) (k : Carrying) (st : State) (s t : ℕ) (d : Option ℕ) : Type 0 where
  pub has : HasWhole k st s (exception_in_slot st.top.frame s)
  pub building : is_being_built st.world (exception_in_slot st.top.frame s) ≡ true
  pub unhandled : Unhandled (exception_in_slot st.top.frame s) st.world.caught
  pub type : known.types t
  pub destructor : known.destructors d

-- Where a handler begins: the exception may be entered, and there are no more handlers than steps.
pub record EnterAsked (known : Known) (k : Carrying) (steps : ℕ) (st : State) (s : ℕ) : Type 0 where
  pub has : HasWhole k st s (exception_in_slot st.top.frame s)
  pub may : may_enter st.world (exception_in_slot st.top.frame s) ≡ true
  pub few : open_handlers st.world.caught ≤ steps
  pub exception : ExceptionKnown known (exception_at st.world (exception_in_slot st.top.frame s))

-- Where an object is given back: it is that of a live exception.
pub record FreeAsked (k : Carrying) (st : State) (s : ℕ) : Type 0 where
  pub has : HasWhole k st s (exception_in_slot st.top.frame s)
  pub live : is_live st.world (exception_in_slot st.top.frame s) ≡ true

-- The newest handled exception: it is live and built, no call waits for its destructor, no other entry is of it, and its type, destructor and handlers are
-- known. Where it does not travel again, no call has it on its way.
pub record NewestAsked (known : Known) (k : Carrying) (st : State) (x : Entry) (xs : List Entry) : Type 0 where
  pub can : can_travel st.world x.number ≡ true
  pub whole : contains (gone (st.top ∷ st.frames)) x.number ≡ false
  pub once : Unhandled x.number xs
  pub exception : ExceptionKnown known (exception_at st.world x.number)
  pub unheld : x.again ≡ false → NoneHolds k None (st.top ∷ st.frames) x.number

-- An exception on its way in the newest call: it is live and built, no call waits for its destructor, its handlers travel again, and its type is known.
pub record FlightAsked (known : Known) (k : Carrying) (st : State) (e d : ℕ) : Type 0 where
  pub can : can_travel st.world e ≡ true
  pub whole : contains (gone st.frames) e ≡ false
  pub apart : contains (destroyed_in st.top.function st.top.frame) e ≡ false
  pub unheld : NoneHolds k (Some st.top.function) st.frames e
  pub again : TravelsAgain e st.world.caught
  pub exception : ExceptionKnown known (exception_at st.world e)

-- Where it goes on outwards, one of the open calls is its target.
pub record ResumeAsked (known : Known) (code : Code) (k : Carrying) (st : State) (e d : ℕ) : Type 0 where
  pub flight : FlightAsked known k st e d
  pub aims : AimsAt code (type_at st.world e) d (st.top ∷ st.frames)
  pub target : HasTarget code (type_at st.world e) d (st.top ∷ st.frames)

-- At what goes on outwards the slot has an exception or a forced unwind.
pub record GoesOut (known : Known) (code : Code) (k : Carrying) (st : State) (s : ℕ) : Type 0 where
  pub caught : IsCaught (st.top.frame.slots s)
  pub asked : (e d : ℕ) → st.top.frame.slots s ≡ flying e d → ResumeAsked known code k st e d

-- What a specification stopped: the slots have an exception on its way and the number of a filter, or a forced unwind and 0.
pub record PassAsked (known : Known) (k : Carrying) (st : State) (o s : ℕ) : Type 0 where
  pub caught : IsCaught (st.top.frame.slots o)
  pub selector : ℤ
  pub number : st.top.frame.slots s ≡ number_word selector
  pub asked : (e d : ℕ) → st.top.frame.slots o ≡ flying e d → FlightAsked known k st e d
  pub enters : may_enter st.world (exception_in_slot st.top.frame o) ≡ true → (e : ℕ) × (d : ℕ) × (st.top.frame.slots o ≡ flying e d)

-- Where a destructor comes back to the runtime's function for leaving a handler: that waits for it alone, with the object and its destructor, and its own
-- caller waits where it leaves a handler; no older call has the exception.
pub record ReturnAsked (known : Known) (code : Code) (k : Carrying) (st : State) (waiting caller : Activation) (outer : List Activation) : Type 0 where
  pub place : waiting.place ≡ 1
  pub destroys : HasDestructor known.destructors waiting.frame
  pub gone : IsGone st.world destroys.number
  pub unheld : NoneHolds k (Some end_catch) (caller ∷ outer) destroys.number
  pub leaves : fetch code caller.function caller.place ≡ Some (linear (plain leave))
  pub called : is_called_by end_catch caller.function ≡ true

abbrev pub ThrowsAreAsked : Type 0
ThrowsAreAsked = (r : Regions) (k : Carrying) (steps s t : ℕ) (d : Option ℕ) (st : State) → let code = code_of (unit_of r) in CodeFits (known_in r) code k → StandsIn (unmarked (known_in r)) code k steps st →
    RunsAt code st (linear (plain (throw s t d))) → IsDefined (step code st) → ThrowAsked (known_in r) k st s t d

abbrev pub EntersAreAsked : Type 0
EntersAreAsked = (r : Regions) (k : Carrying) (steps s : ℕ) (st : State) → let code = code_of (unit_of r) in CodeFits (known_in r) code k → StandsIn (unmarked (known_in r)) code k steps st →
    RunsAt code st (linear (plain (enter s))) → IsDefined (step code st) → EnterAsked (known_in r) k steps st s

abbrev pub FreesAreAsked : Type 0
FreesAreAsked = (r : Regions) (k : Carrying) (steps s : ℕ) (st : State) → let code = code_of (unit_of r) in CodeFits (known_in r) code k → StandsIn (unmarked (known_in r)) code k steps st →
    RunsAt code st (linear (free s)) → IsDefined (step code st) → FreeAsked k st s

-- where the newest handler is left, or its exception thrown again
abbrev pub LeavesAreAsked : Type 0
LeavesAreAsked = (r : Regions) (k : Carrying) (steps : ℕ) (st : State) (x : Entry) (xs : List Entry) → let code = code_of (unit_of r) in CodeFits (known_in r) code k → StandsIn (unmarked (known_in r)) code k steps st →
    st.world.caught ≡ x ∷ xs → NewestAsked (known_in r) k st x xs

abbrev pub ResumesAreAsked : Type 0
ResumesAreAsked = (r : Regions) (k : Carrying) (steps s : ℕ) (st : State) → let code = code_of (unit_of r) in CodeFits (known_in r) code k → StandsIn (unmarked (known_in r)) code k steps st →
    RunsAt code st (linear (resume s)) → GoesOut (known_in r) code k st s

abbrev pub PassesAreAsked : Type 0
PassesAreAsked = (r : Regions) (k : Carrying) (steps o s : ℕ) (st : State) → let code = code_of (unit_of r) in CodeFits (known_in r) code k → StandsIn (unmarked (known_in r)) code k steps st →
    RunsAt code st (linear (unexpected o s)) → PassAsked (known_in r) k st o s

abbrev pub ReturnsAreAsked : Type 0
ReturnsAreAsked = (r : Regions) (k : Carrying) (steps n : ℕ) (st : State) (waiting caller : Activation) (outer : List Activation) → let code = code_of (unit_of r) in CodeFits (known_in r) code k →
    StandsIn (unmarked (known_in r)) code k steps st → st.top.function ≡ compiled n → st.frames ≡ waiting ∷ caller ∷ outer → waiting.function ≡ end_catch → ReturnAsked (known_in r) code k st waiting caller outer

-- where a filter is tested, the slot has a number
abbrev pub TestsAreAsked : Type 0
TestsAreAsked = (r : Regions) (k : Carrying) (steps s l : ℕ) (z : ℤ) (st : State) → let code = code_of (unit_of r) in CodeFits (known_in r) code k → StandsIn (unmarked (known_in r)) code k steps st →
    RunsAt code st (linear (jump_filter s z l)) → (selector : ℤ) × (st.top.frame.slots s ≡ number_word selector)
