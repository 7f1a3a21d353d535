-- Which forced unwind goes on next.
use Rattle.std.specs.Prelude.{◌≡◌, ◌⊎◌, ℕ, zero, suc, ℤ, List, [], ◌∷◌, Option, Some, None, if◌then◌else◌}
use Rattle.region_forms.specs.Form.{Op, Regions}
use Rattle.region_forms.specs.World.{Word, unwinding, World}
use Rattle.region_forms.specs.Effect.{cancels, effect}
use Rattle.linear_forms.specs.Linear.{plain, resume}
use Rattle.linear_forms.specs.Stub.{Function, compiled, end_catch, terminating, call_unexpected, linear}
use Rattle.linear_forms.specs.Activation.{Code, Activation, State, goes_to, kinds}
use Rattle.linear_forms.specs.Machine.{step}
use Rattle.linear_forms.specs.Defined.{RunsAt}
use Rattle.linear_forms.specs.Unit.{unit_of}
use Rattle.linear_forms.specs.UnitRun.{code_of}
use Rattle.flight_homes.specs.Keeps.{Carrying, Carried}
use Rattle.flight_homes.specs.Lives.{known_in}
use Rattle.flight_homes.specs.Nest.{is_terminate}
use Rattle.linear_invariant.specs.Held.{carried_below}
use Rattle.linear_invariant.specs.Calls.{unmarked}
use Rattle.linear_invariant.specs.Code.{CodeFits}
use Rattle.linear_invariant.specs.Stands.{StandsIn}

-- the forced unwind that a word has
abbrev pub forced_word : Word → Option ℤ
forced_word (unwinding z) = Some z
forced_word x = None

abbrev pub forced_carried : Option Carried → Option ℤ
forced_carried None = None
forced_carried (Some c) = forced_word c.word

-- that which an open call has on its way: the runtime's function for what a specification stopped has one also before it is tested
abbrev pub forced_by : Option Function → Carrying → Function → ℕ → Activation → Option ℤ
forced_by f k (compiled n) p a = forced_carried (carried_below f k a)
forced_by f k end_catch p a = forced_carried (carried_below f k a)
forced_by f k terminating p a = None
forced_by f k call_unexpected zero a = forced_word (a.frame.slots 0)
forced_by f k call_unexpected (suc (suc (suc (suc zero)))) a = forced_word (a.frame.slots 4)
forced_by f k call_unexpected p a = forced_carried (carried_below f k a)

abbrev pub or_else : Option ℤ → Option ℤ → Option ℤ
or_else None x = x
or_else (Some z) x = Some z

-- The newest that is on its way above the newest call of terminate, which none passes.
abbrev pub newest_forced : Carrying → Option Function → List Activation → Option ℤ
newest_forced k f [] = None
newest_forced k f (a ∷ fs) = if is_terminate a.function then None else or_else (forced_by f k a.function a.place a) (newest_forced k (Some a.function) fs)

-- the operation at which a state stands begins a forced unwind
pub record BeginsForced (code : Code) (st : State) (z : ℤ) : Type 0 where
  pub op : Op
  pub world : World
  pub runs : RunsAt code st (linear (plain op))
  pub begins : effect (kinds code st.top.function) op st.top.frame st.world ≡ cancels z world

-- After a step none is on its way, or that which was, or that which the step began.
abbrev pub ForcedStays : Code → Carrying → State → State → Type 0
ForcedStays code k st next =
    let before = newest_forced k None (st.top ∷ st.frames) in let now = newest_forced k None (next.top ∷ next.frames) in
    (now ≡ None) ⊎ ((now ≡ before) ⊎ ((z : ℤ) × BeginsForced code st z × (now ≡ Some z)))

abbrev pub StepsKeepForced : Type 0
StepsKeepForced = (r : Regions) (k : Carrying) (steps : ℕ) (st next : State) → CodeFits (known_in r) (code_of (unit_of r)) k → StandsIn (unmarked (known_in r)) (code_of (unit_of r)) k steps st →
    step (code_of (unit_of r)) st ≡ goes_to next → ForcedStays (code_of (unit_of r)) k st next

-- what goes on outwards is that
abbrev pub ForcedAreNewest : Type 0
ForcedAreNewest = (r : Regions) (k : Carrying) (steps s : ℕ) (z : ℤ) (st : State) → let code = code_of (unit_of r) in CodeFits (known_in r) code k → StandsIn (unmarked (known_in r)) code k steps st →
    RunsAt code st (linear (resume s)) → st.top.frame.slots s ≡ unwinding z → newest_forced k None (st.top ∷ st.frames) ≡ Some z
