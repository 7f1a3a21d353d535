-- What holds of exceptions where a step that is about one is defined.
use Rattle.std.specs.Prelude.{◌≡◌, ℕ, ℤ, true, false, ◌&&◌, List, ◌∷◌, Option, Some}
use Rattle.region_forms.specs.Form.{Kinds, Place, Value, load, store, throw, rethrow, enter}
use Rattle.region_forms.specs.Caught.{Entry}
use Rattle.region_forms.specs.World.{Address, Frame, World, exception_in_slot, exception_at}
use Rattle.region_forms.specs.Lives.{is_there, is_native, is_being_built, can_travel, may_enter, may_leave}
use Rattle.region_forms.specs.Evaluation.{in_memory, locate, value_in}
use Rattle.region_forms.specs.Effect.{goes, finished}
use Rattle.linear_forms.specs.Linear.{plain, free}
use Rattle.linear_forms.specs.Stub.{CodeOp, linear, runtime, leave_newest, begin_unexpected}
use Rattle.linear_forms.specs.Activation.{Code, State, Next, goes_to, finishes, not_defined, fetch, kinds}
use Rattle.linear_forms.specs.Operation.{may_free}
use Rattle.linear_forms.specs.Machine.{step}

-- a step is defined
abbrev pub IsDefined : Next → Type 0
IsDefined (goes_to m) = Unit {0}
IsDefined (finishes not_defined w) = ⊥
IsDefined (finishes e w) = Unit {0}

-- the operation at the place of the call that runs
abbrev pub RunsAt : Code → State → CodeOp → Type 0
RunsAt code st o = fetch code st.top.function st.top.place ≡ Some o

-- Where an int is read or written, what it belongs to is there: the object of an exception only as long as that is live. An exception is thrown, or
-- its object freed, while it is being built; it is entered, thrown again or left while it is live and built.
pub record DefinedWhereLive : Type 0 where
  pub loads : (k : Kinds) (f : Frame) (w : World) (p : Place) (a : Address) (z : ℤ) → locate k f p ≡ Some (in_memory a) → value_in k f w (load p) ≡ Some z
      → (is_there w a.base ≡ true) × (w.memory a ≡ Some z)
  pub stores : (k : Kinds) (f g : Frame) (w u : World) (p : Place) (a : Address) (z : ℤ) → locate k f p ≡ Some (in_memory a) → finished k (Some p) z f w ≡ goes g u
      → is_there w a.base ≡ true
  pub writes : (code : Code) (st : State) (p : Place) (v : Value) (a : Address) (z : ℤ) → RunsAt code st (linear (plain (store p v)))
      → locate (kinds code st.top.function) st.top.frame p ≡ Some (in_memory a) → value_in (kinds code st.top.function) st.top.frame st.world v ≡ Some z
      → IsDefined (step code st) → is_there st.world a.base ≡ true
  pub throws : (code : Code) (st : State) (s t : ℕ) (d : Option ℕ) → RunsAt code st (linear (plain (throw s t d))) → IsDefined (step code st)
      → is_being_built st.world (exception_in_slot st.top.frame s) ≡ true
  pub rethrows : (code : Code) (st : State) (x : Entry) (xs : List Entry) → RunsAt code st (linear (plain rethrow)) → st.world.caught ≡ x ∷ xs → x.again ≡ false
      → IsDefined (step code st) → can_travel st.world x.number ≡ true
  pub enters : (code : Code) (st : State) (s : ℕ) → RunsAt code st (linear (plain (enter s))) → IsDefined (step code st)
      → may_enter st.world (exception_in_slot st.top.frame s) ≡ true
  pub frees : (code : Code) (st : State) (s : ℕ) → RunsAt code st (linear (free s)) → IsDefined (step code st)
      → may_free st.top.function st.world (exception_in_slot st.top.frame s) ≡ true
  pub leaves : (code : Code) (st : State) (o d l : ℕ) → RunsAt code st (runtime (leave_newest o d l)) → IsDefined (step code st) → may_leave st.world st.world.caught ≡ true
  pub begins : (code : Code) (st : State) (o h : ℕ) → RunsAt code st (runtime (begin_unexpected o h)) → IsDefined (step code st)
      → (let e = exception_in_slot st.top.frame o in (is_native (exception_at st.world e) && may_enter st.world e) ≡ true)
