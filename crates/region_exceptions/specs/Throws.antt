-- That objects are thrown alike (ISO/IEC 14882:2003, 15.1).
use Rattle.std.specs.Prelude.{◌≡◌, ℕ, ◌≤◌, ℤ, Bool, List, [], ◌∷◌, Option, Some}
use Rattle.meaning_forms.specs.Class.{ObjectType}
use Rattle.meaning_forms.specs.World.{World as SourceWorld, Reference}
use Rattle.meaning_forms.specs.Context.{Context as SourceContext}
use Rattle.meaning_forms.specs.Outcome.{Action as SourceAction}
use Rattle.meaning_forms.specs.Frame.{Frame as SourceFrame}
use Rattle.meaning_forms.specs.Running.{Argument as SourceArgument, Callee}
use Rattle.meaning_forms.specs.Throw.{throw_new, rethrow as source_rethrow}
use Rattle.region_forms.specs.Form.{Region, op, rethrow, regions_from}
use Rattle.region_forms.specs.World.{of_exception, address_word, object_address}
use Rattle.region_forms.specs.Outcome.{State, Flow, normal}
use Rattle.region_forms.specs.Ending.{Running}
use Rattle.linear_simulation.specs.Watched.{watched_all}
use Rattle.region_forms.specs.LowerExpression.{Lowering, exception_slot, first_temporary}
use Rattle.region_forms.specs.LowerStatement.{thrown_as}
use Rattle.region_simulation.specs.Places.{Places, Stood}
use Rattle.region_simulation.specs.Reach.{Reaches}
use Rattle.region_simulation.specs.Stands.{IsOfProgram, Stands, context_of}
use Rattle.region_simulation.specs.Alike.{Alike}
use Rattle.region_simulation.specs.Expressions.{source_running}
use Rattle.region_simulation.specs.Flows.{DoesAlike}
use Rattle.region_exceptions.specs.Same.{RunAlike}
use Rattle.region_exceptions.specs.Unbuilt.{IsUnbuilt}
use Rattle.region_exceptions.specs.Fares.{FaresIn}

-- the object that is the answer is that of exception e, of type t
abbrev pub IsBuilt : ℕ → ObjectType → ℕ → Flow → SourceWorld → Places → State → Type 0
IsBuilt e t o flow w at s = (flow ≡ normal) × (at o ≡ Some (record { base = of_exception e; type = t }))

-- Regions build the object of an exception as an action does. The address of the exception object is in its slot, and nothing stands there
-- yet; slots before the temporaries are kept.
abbrev pub BuildsAlike : Lowering → (own : Option ℕ) → Running → SourceFrame → SourceContext → ObjectType → SourceAction ℕ → List Region → Type 0
BuildsAlike l own b v c t build rs =
    (at : Places) (w : SourceWorld) (s : State) (e : ℕ) → Stands l.layout l.program at c w s → Reaches l own at v s.frame
    → s.frame.slots (exception_slot l) ≡ address_word (object_address e) → e ≤ w.last_number → IsUnbuilt e w → ((o : ℕ) (x : Stood) → at o ≡ Some x → x.base ≡ of_exception e → ⊥)
    → Alike l.layout l.program at (first_temporary l) c w s (IsBuilt e t) (build w) (watched_all b (regions_from rs) (context_of w.open_calls c) s)

-- what is said in each call of each function, in every context
abbrev pub InEachContext : (Lowering → (own : Option ℕ) → (gives : Bool) → (Callee → Reference → List SourceArgument → SourceContext → SourceAction ℤ) → Running → SourceFrame → SourceContext → Type 0) → Type 0
InEachContext said =
    (l : Lowering) (own : Option ℕ) (gives : Bool) (call : Callee → Reference → List SourceArgument → SourceContext → SourceAction ℤ) (b : Running) (v : SourceFrame) (c : SourceContext)
    → RunAlike l.layout (source_running l call) b → said l own gives call b v c

-- An object of a type of the program is thrown as it is built: an exception object is made, built, kept as one of the type, and raised. Where building exits by an
-- exception or a forced unwind, the exception object is freed.
abbrev pub ThrowsAlike : Type 0
ThrowsAlike = InEachContext (λ l own gives call b v c.
    (n i d : ℕ) (t : ObjectType) (build : SourceAction ℕ) (rs : List Region) → IsOfProgram l.program t → FaresIn l.program c build → BuildsAlike l own b v c t build rs
    → DoesAlike l own gives b v c n i d (throw_new (source_running l call) c build) (thrown_as l t rs))

-- the newest handled exception is thrown again
abbrev pub RethrowsAlike : Type 0
RethrowsAlike = InEachContext (λ l own gives call b v c.
    (n i d : ℕ) → DoesAlike l own gives b v c n i d (source_rethrow (source_running l call) c) (op rethrow ∷ []))
