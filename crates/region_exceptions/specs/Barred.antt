-- That no exception comes out of what is done behind a barrier, which dooms them all.
use Rattle.std.specs.Prelude.{List}
use Rattle.meaning_forms.specs.World.{World, Reference}
use Rattle.meaning_forms.specs.Context.{Context, barrier, guarded_by}
use Rattle.meaning_forms.specs.Outcome.{Action, Result, stopped, thrown, cancelled}
use Rattle.meaning_forms.specs.Running.{Running, Argument, Callee}
use Rattle.region_simulation.specs.Stands.{IsSound}

-- no exception comes out
abbrev pub NotThrown : {A : Type 0} → Result A → Type 0
NotThrown (stopped (thrown e) w) = ⊥
NotThrown x = Unit {0}

-- neither an exception nor a forced unwind comes out
abbrev pub StaysInside : {A : Type 0} → Result A → Type 0
StaysInside (stopped (thrown e) w) = ⊥
StaysInside (stopped (cancelled n) w) = ⊥
StaysInside x = Unit {0}

-- behind a barrier no exception comes out, wherever what is live, handled or travelling was made
abbrev pub IsBarred : {A : Type 0} → (Context → Action A) → Type 0
IsBarred act = (c : Context) (w : World) → IsSound c w.last_number w.live → NotThrown (act (guarded_by barrier c) w)

-- so it is of each call
abbrev pub CallsAreBarred : Running → Type 0
CallsAreBarred r = (callee : Callee) (this : Reference) (given : List Argument) → IsBarred (r.call callee this given)
