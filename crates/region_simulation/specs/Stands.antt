-- A state of regions that stands for a world of a source in a context.
use Rattle.std.specs.Prelude.{◌≡◌, ℕ, ◌<◌, ◌≤◌, ℤ, true, List, [], ◌∷◌, map, length, Option, Some, None, slice_get}
use Rattle.cxx_ast.specs.Plain.{Checked}
use Rattle.meaning_forms.specs.Class.{ObjectType, int_type, class_type, contains, function_at}
use Rattle.meaning_forms.specs.World.{World as SourceWorld, Live as SourceLive, Exception as SourceException, Installed, building as source_building, native as source_native, foreign as source_foreign}
use Rattle.meaning_forms.specs.Context.{Context as SourceContext, Clause as SourceClause, catch_all, catch_type, Guard as SourceGuard, try_block, specification, barrier as source_barrier}
use Rattle.region_forms.specs.Caught.{caught_of, only_front}
use Rattle.region_forms.specs.World.{Base, of_global, of_variable, of_exception, Address, World, Exception, building, native, foreign, Live}
use Rattle.region_forms.specs.Guard.{Guard, clauses, listed, everything}
use Rattle.region_forms.specs.Outcome.{State, Context}
use Rattle.region_forms.specs.Numbering.{type_number, destructor_of}
use Rattle.region_forms.specs.Layout.{Layout}
use Rattle.region_simulation.specs.Lives.{is_live, CanBeThrown}
use Rattle.region_simulation.specs.Places.{Places, Stood, Remembers}

-- an exception: its type and its destructor by their numbers
abbrev pub exception_of : Checked → SourceException → Exception
exception_of p source_building = building
exception_of p (source_native t o kept) = native (type_number t) (destructor_of p t) kept
exception_of p (source_foreign k t) = foreign k t

-- a live exception keeps its number
abbrev pub live_of : Checked → SourceLive → Live
live_of p x = record { number = x.number; exception = exception_of p x.exception }

-- a clause by the number of its type
abbrev pub clause_of : SourceClause → Option ℕ
clause_of catch_all = None
clause_of (catch_type t) = Some (type_number t)

-- a guard by the numbers of its types
abbrev pub guard_of : SourceGuard → Guard
guard_of (try_block cs) = clauses (map clause_of cs)
guard_of (specification types) = listed (map type_number types)
guard_of source_barrier = everything

-- what is given from outside: the guards and the open calls; what is handled and what travels stands in the world
abbrev pub context_of : ℕ → SourceContext → Context
context_of depth c = record { guards = map guard_of c.guards; depth = depth }

-- The world of regions that a world and a context give, but for the memory and the number of calls made: what is handled and what travels
-- make the caught list.
abbrev pub world_of : Checked → SourceContext → SourceWorld → (Address → Option ℤ) → ℕ → World
world_of p c w memory calls = record {
  memory = memory;
  live = map (live_of p) w.live;
  last_number = w.last_number;
  caught = caught_of c.travelling c.handled;
  uncaught = length c.travelling;
  installed = w.installed;
  input = w.input;
  replies = w.replies;
  items = w.items;
  calls = calls;
  deepest = w.deepest;
  ending = c.ending;
}

-- a base is at a global, at a slot of a call that was made, or at an exception that was and is live
abbrev pub IsMade : (calls last_number : ℕ) → List SourceLive → Base → Type 0
IsMade calls last lives (of_global g) = Unit {0}
IsMade calls last lives (of_variable c s) = c < calls
IsMade calls last lives (of_exception e) = (e ≤ last) × (is_live lives e ≡ true)

-- the entries of each exception among the handled ones stand side by side
abbrev pub AreTogether : List ℕ → Type 0
AreTogether [] = Unit {0}
AreTogether (e ∷ es) = (only_front e es ≡ true) × AreTogether es

-- What is handled, what travels and what is live was made, so an exception to come has another number. What is handled and what travels is live and
-- built. The handled ones stand as they do where handlers are entered and left. Where those that travel again stand is left open: a handler of another
-- exception may be entered meanwhile.
pub record IsSound (c : SourceContext) (last : ℕ) (lives : List SourceLive) : Type 0 where
  pub handled : (e : ℕ) → contains c.handled e ≡ true → e ≤ last
  pub travelling : (e : ℕ) → contains c.travelling e ≡ true → e ≤ last
  pub entered : (e : ℕ) → contains c.handled e ≡ true → CanBeThrown lives e
  pub thrown : (e : ℕ) → contains c.travelling e ≡ true → CanBeThrown lives e
  pub live : (i : ℕ) (x : SourceLive) → slice_get lives i ≡ Some x → x.number ≤ last
  pub together : AreTogether c.handled

-- a handler that is set is a function of the program without parameters
abbrev pub IsHandler : Checked → Option ℕ → Type 0
IsHandler p None = Unit {0}
IsHandler p (Some n) = (n < length p.functions) × ((function_at p n).parameters ≡ [])

-- both handlers are
abbrev pub AreHandlers : Checked → Installed → Type 0
AreHandlers p x = IsHandler p x.terminate_handler × IsHandler p x.unexpected_handler

-- a type of the program: int, or one of its classes
abbrev pub IsOfProgram : Checked → ObjectType → Type 0
IsOfProgram p int_type = Unit {0}
IsOfProgram p (class_type k) = k < length p.classes

-- what a native exception is kept with can be called: the destructor of its type, and the handlers
pub record IsKept (p : Checked) (t : ObjectType) (kept : Installed) : Type 0 where
  pub type : IsOfProgram p t
  pub handlers : AreHandlers p kept

-- The state stands for the world: what both see is the same, memory holds what objects hold, a global stands at itself, the object of a
-- native exception at that exception, and nothing at a call or an exception that is to come, nor at an exception that is no longer live. Handlers
-- that are set, and what native exceptions are kept with, can be called.
pub record Stands (l : Layout) (p : Checked) (at : Places) (c : SourceContext) (w : SourceWorld) (s : State) : Type 0 where
  pub world : s.world ≡ world_of p c w s.world.memory s.world.calls
  pub turns : s.turns ≡ w.turns
  pub memory : Remembers l p at w s.world.memory
  pub globals : (g : ℕ) → g < length p.globals → at g ≡ Some (record { base = of_global g; type = int_type })
  pub exceptions : (i : ℕ) (e o : ℕ) (t : ObjectType) (kept : Installed) → slice_get w.live i ≡ Some (record { number = e; exception = source_native t o kept })
      → at o ≡ Some (record { base = of_exception e; type = t })
  pub made : (o : ℕ) (x : Stood) → at o ≡ Some x → IsMade s.world.calls w.last_number w.live x.base
  pub sound : IsSound c w.last_number w.live
  pub handlers : AreHandlers p w.installed
  pub kept : (i : ℕ) (e o : ℕ) (t : ObjectType) (kept : Installed) → slice_get w.live i ≡ Some (record { number = e; exception = source_native t o kept }) → IsKept p t kept
