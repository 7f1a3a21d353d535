-- What is known of a source alone when a computation comes out: which exceptions come out of it, and that those that travel stay what they are.
use Rattle.std.specs.Prelude.{◌≡◌, ℕ, ◌<◌, ◌≤◌, ◌⊎◌, true, false, List, Some, slice_get}
use Rattle.cxx_ast.specs.Plain.{Checked}
use Rattle.meaning_forms.specs.Class.{contains}
use Rattle.meaning_forms.specs.World.{World, Live, Reference, type_at, exception_at}
use Rattle.meaning_forms.specs.Context.{Context}
use Rattle.meaning_forms.specs.Call.{run_callee, open_call, running}
use Rattle.meaning_forms.specs.Guard.{is_doomed}
use Rattle.meaning_forms.specs.Outcome.{Action, Result, done, stopped, thrown, cancelled}
use Rattle.meaning_forms.specs.Running.{Running, Argument, Callee}
use Rattle.region_simulation.specs.Stands.{AreTogether}
use Rattle.region_exceptions.specs.Raises.{CanBeRaised}
use Rattle.region_exceptions.specs.Barred.{CallsAreBarred}
use Rattle.region_exceptions.specs.Unbuilt.{IsUnbuilt}

-- what is handled, travels or is live was made, and the handlers of each exception stand side by side
pub record IsOrderly (c : Context) (w : World) : Type 0 where
  pub handled : (e : ℕ) → contains c.handled e ≡ true → e ≤ w.last_number
  pub travelling : (e : ℕ) → contains c.travelling e ≡ true → e ≤ w.last_number
  pub live : (i : ℕ) (x : Live) → slice_get w.live i ≡ Some x → x.number ≤ w.last_number
  pub together : AreTogether c.handled

-- No number is used again, all that is live was made, what travels or is handled stays what it is, and of the exceptions made before none is kept
-- as built that was not.
pub record GoesOn (c : Context) (w w2 : World) : Type 0 where
  pub later : w.last_number ≤ w2.last_number
  pub live : (i : ℕ) (x : Live) → slice_get w2.live i ≡ Some x → x.number ≤ w2.last_number
  pub kept : (e : ℕ) → contains c.travelling e ≡ true → exception_at w2 e ≡ exception_at w e
  pub held : (e : ℕ) → contains c.handled e ≡ true → exception_at w2 e ≡ exception_at w e
  pub unbuilt : (e : ℕ) → e ≤ w.last_number → IsUnbuilt e w → IsUnbuilt e w2

-- An exception that comes out travelled not before, the handlers of it that are entered are the newest, and no guard dooms it. It is handled
-- outside, or was made since the n-th.
pub record ComesOut (p : Checked) (n : ℕ) (c : Context) (w : World) (e : ℕ) : Type 0 where
  pub raised : CanBeRaised c w e
  pub known : (contains c.handled e ≡ true) ⊎ (n < e)
  pub safe : is_doomed p c.guards (type_at w e) ≡ false

-- by how a computation comes out that began in a context and a world
abbrev pub Fares : {A : Type 0} → Checked → ℕ → Context → World → Result A → Type 0
Fares p n c w (done a w2) = GoesOn c w w2
Fares p n c w (stopped (thrown e) w2) = GoesOn c w w2 × ComesOut p n c w2 e
Fares p n c w (stopped (cancelled v) w2) = GoesOn c w w2
Fares p n c w (stopped x w2) = Unit {0}

-- so it is of an action in each world in which a context is orderly, with the exceptions made so far or fewer, and of one in each context
abbrev pub FaresIn : {A : Type 0} → Checked → Context → Action A → Type 0
FaresIn p c act = (n : ℕ) (w : World) → n ≤ w.last_number → IsOrderly c w → Fares p n c w (act w)

abbrev pub AlwaysFares : {A : Type 0} → Checked → (Context → Action A) → Type 0
AlwaysFares p act = (c : Context) → FaresIn p c (act c)

-- so it is of each call
abbrev pub CallsFare : Running → Type 0
CallsFare r = (callee : Callee) (this : Reference) (given : List Argument) → AlwaysFares r.program (r.call callee this given)

-- behind barriers no exception comes out of calls that fare so
abbrev pub FaringCallsAreBarred : Type 0
FaringCallsAreBarred = (r : Running) → CallsFare r → CallsAreBarred r

-- a call inside which calls fare so does, whatever is called, up to whatever limit of open calls; so calls with any fuel do
pub record AllCallsFare : Type 0 where
  pub inside : (r : Running) → CallsFare r → (limit : ℕ) (callee : Callee) (this : Reference) (given : List Argument)
      → AlwaysFares r.program (λ c. open_call limit (run_callee r callee this given c))
  pub fueled : (p : Checked) (limit fuel : ℕ) → CallsFare (running p limit fuel)
