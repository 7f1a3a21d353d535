-- Computations that are never stopped as a call that is too deep: open calls and turns together stay below the limit.
use Rattle.std.specs.Prelude.{ℕ, ◌+◌, ◌<◌, List}
use Rattle.cxx_ast.specs.Plain.{Checked}
use Rattle.meaning_forms.specs.World.{World, Reference}
use Rattle.meaning_forms.specs.Context.{Context}
use Rattle.meaning_forms.specs.Outcome.{Action, Result, done, stopped, Stop, deep}
use Rattle.meaning_forms.specs.Running.{Running, Callee, Argument}
use Rattle.meaning_forms.specs.Call.{running}

-- open calls and turns left
abbrev pub IsBelow : ℕ → World → Type 0
IsBelow limit w = w.open_calls + w.turns < limit

-- a stop is no call that is too deep
abbrev pub StopsBelow : ℕ → Stop → World → Type 0
StopsBelow limit deep w = ⊥
StopsBelow limit s w = IsBelow limit w

abbrev pub ComesBelow : {A : Type 0} → ℕ → Result A → Type 0
ComesBelow limit (done a w) = IsBelow limit w
ComesBelow limit (stopped s w) = StopsBelow limit s w

-- so a computation comes out where it began so
pub record Shallow (limit : ℕ) (A : Type 0) (act : Action A) : Type 0 where
  pub at : (w : World) → IsBelow limit w → ComesBelow limit (act w)

-- so do calls
abbrev pub CallsAreShallow : ℕ → Running → Type 0
CallsAreShallow limit r = (callee : Callee) (this : Reference) (given : List Argument) (c : Context) (w : World) → IsBelow limit w → ComesBelow limit (r.call callee this given c w)

abbrev pub AllCallsAreShallow : Type 0
AllCallsAreShallow = (p : Checked) (limit fuel : ℕ) → CallsAreShallow limit (running p limit fuel)
