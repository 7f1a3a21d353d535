-- That exceptions are entered and left alike (ISO/IEC 14882:2003, 15.1, 15.3; Itanium C++ ABI: Exception Handling, 2.5.3, 2.5.4).
use Rattle.std.specs.Prelude.{◌≡◌, ℕ, ◌+◌, ◌<◌, Bool, true, false, []}
use Rattle.meaning_forms.specs.Class.{contains}
use Rattle.meaning_forms.specs.World.{World as SourceWorld, Reference}
use Rattle.meaning_forms.specs.Context.{Context as SourceContext, handling, with_travelling}
use Rattle.meaning_forms.specs.Outcome.{Flow as SourceFlow, Action as SourceAction}
use Rattle.meaning_forms.specs.Running.{Running as SourceRunning, destructor}
use Rattle.meaning_forms.specs.Handler.{enter as source_enter, while_handled}
use Rattle.region_forms.specs.Caught.{only_front}
use Rattle.region_forms.specs.Form.{enter, leave_handler, Region, protect}
use Rattle.region_forms.specs.Layout.{Layout}
use Rattle.region_forms.specs.World.{exception_in_slot}
use Rattle.region_forms.specs.LowerExpression.{Lowering}
use Rattle.region_forms.specs.Outcome.{State}
use Rattle.region_forms.specs.Ending.{Running, empty_call}
use Rattle.region_forms.specs.Meaning.{operation}
use Rattle.linear_simulation.specs.Watched.{watched}
use Rattle.region_simulation.specs.Places.{Places}
use Rattle.region_simulation.specs.Stands.{Stands, context_of}
use Rattle.region_simulation.specs.Alike.{Alike}
use Rattle.region_simulation.specs.Flows.{FlowAgrees}
use Rattle.region_exceptions.specs.Same.{RunAlike}
use Rattle.region_exceptions.specs.Left.{CanBeLeft}
use Rattle.region_exceptions.specs.Barred.{StaysInside}
use Rattle.region_exceptions.specs.Fares.{CallsFare}
use Rattle.region_exceptions.specs.Scopes.{Any}

-- an exception can be entered where it comes out: it travelled not before, and if it is handled, its handlers are the newest
pub record CanBeEntered (c : SourceContext) (e : ℕ) : Type 0 where
  pub rests : contains c.travelling e ≡ false
  pub front : only_front e c.handled ≡ true

-- an exception that came out, and travels, is entered; entering a foreign one while another is handled terminates
abbrev pub EntersAlike : Type 0
EntersAlike =
    (l : Layout) (a : SourceRunning) (b : Running) → RunAlike l a b → (at : Places) (k : ℕ) (c : SourceContext) (w : SourceWorld) (s : State) (e slot : ℕ)
    → Stands l a.program at (with_travelling e c) w s → CanBeEntered c e → exception_in_slot s.frame slot ≡ e
    → StaysInside (source_enter a e c w) ×
    Alike l a.program at k (handling e c) w s Any (source_enter a e c w) (operation b (enter slot) (context_of w.open_calls c) s)

-- the destructor of `std::bad_exception` does nothing but make a call, which regions make without a function
abbrev pub EmptyDestructor : Layout → SourceRunning → Running → Type 0
EmptyDestructor l a b =
    (this : Reference) (at : Places) (k : ℕ) (c : SourceContext) (w : SourceWorld) (s : State) → Stands l a.program at c w s
    → Alike l a.program at k c w s Any (a.call (destructor 0) this [] c w) (empty_call b (context_of w.open_calls c) s)

-- What is done while an exception is handled, and then its leaving: it is given back where no handler of it is left and it does not travel
-- again. What follows upon an earlier world still does.
abbrev pub HandlersEndAlike : Type 0
HandlersEndAlike =
    (l : Lowering) (gives : Bool) (i d : ℕ) → i < d → (a : SourceRunning) (b : Running) → RunAlike l.layout a b → CallsFare a
    → EmptyDestructor l.layout a b
    → (at : Places) (k : ℕ) (c : SourceContext) (earlier w : SourceWorld) (s : State) (e : ℕ) → Stands l.layout a.program at (handling e c) w s → contains c.travelling e ≡ false
    → CanBeLeft (contains c.handled e) e at earlier w
    → (act : SourceContext → SourceAction SourceFlow) (body : Region)
    → Alike l.layout a.program at k (handling e c) w s (FlowAgrees l gives i (d + 1)) (act (handling e c) w) (watched b body (context_of w.open_calls c) s)
    → Alike l.layout a.program at k c earlier s (FlowAgrees l gives i d) (while_handled a e c act w) (watched b (protect body leave_handler) (context_of w.open_calls c) s)
