-- What is known of the live exceptions and of the handlers in effect in each state of the machine for linear code.
use Rattle.std.specs.Prelude.{⊤, ◌≡◌, ℕ, ◌<◌, ◌≤◌, true, length, Option, Some, None}
use Rattle.std.specs.List.{AllByRecursion}
use Rattle.cxx_ast.specs.declared.name.Builtin.TheVariants.{SetTerminate, SetUnexpected}
use Rattle.meaning_forms.specs.World.{Installed}
use Rattle.region_forms.specs.Form.{Callee, builtin, Value, call_value, int_argument, address_argument, handler_argument, Arguments, no_arguments, argument_then, Op, evaluate, store, call, throw, Regions, function_at}
use Rattle.region_forms.specs.WellFormed.{destructor_test, is_well_formed}
use Rattle.region_forms.specs.Ending.{bad_row}
use Rattle.region_forms.specs.World.{Exception, building, native, foreign, Live, World}
use Rattle.linear_forms.specs.Linear.{plain}
use Rattle.linear_forms.specs.Activation.{Code, State, goes_to}
use Rattle.linear_forms.specs.Machine.{step}
use Rattle.linear_forms.specs.Unit.{unit_of}
use Rattle.linear_forms.specs.UnitRun.{code_of, code_at}

-- what is asked of types, destructors and handlers: that they are there, say
pub record Known : Type 1 where
  pub types : ℕ → Type 0
  pub destructors : Option ℕ → Type 0
  pub handlers : ℕ → Type 0

abbrev pub HandlerKnown : Known → Option ℕ → Type 0
HandlerKnown k None = ⊤
HandlerKnown k (Some n) = k.handlers n

pub record InstalledKnown (k : Known) (i : Installed) : Type 0 where
  pub terminate : HandlerKnown k i.terminate_handler
  pub unexpected : HandlerKnown k i.unexpected_handler

abbrev pub ExceptionKnown : Known → Exception → Type 0
ExceptionKnown k building = ⊤
ExceptionKnown k (native t d kept) = k.types t × k.destructors d × InstalledKnown k kept
ExceptionKnown k (foreign i token) = ⊤

-- a live exception, where the last number that was given is this
pub record LiveKnown (k : Known) (last : ℕ) (x : Live) : Type 0 where
  pub exception : ExceptionKnown k x.exception
  pub first : 1 ≤ x.number
  pub given : x.number ≤ last

-- all live exceptions and the handlers in effect; no exception has number 0
pub record WorldKnown (k : Known) (w : World) : Type 0 where
  pub lives : AllByRecursion (LiveKnown k w.last_number) w.live
  pub handlers : InstalledKnown k w.installed

-- a function that becomes a handler is one
abbrev pub HandlersKnown : Known → Arguments → Type 0
HandlersKnown k no_arguments = ⊤
HandlersKnown k (argument_then (int_argument v) args) = ⊥
HandlersKnown k (argument_then (address_argument p) args) = ⊤
HandlersKnown k (argument_then (handler_argument n) args) = k.handlers n

abbrev pub CalleeKnown : Known → Callee → Arguments → Type 0
CalleeKnown k (builtin SetTerminate) args = HandlersKnown k args
CalleeKnown k (builtin SetUnexpected) args = HandlersKnown k args
CalleeKnown k c args = ⊤

abbrev pub ValueKnown : Known → Value → Type 0
ValueKnown k (call_value c args) = CalleeKnown k c args
ValueKnown k v = ⊤

-- what an operation names is known
abbrev pub OpKnown : Known → Op → Type 0
OpKnown k (evaluate v) = ValueKnown k v
OpKnown k (store p v) = ValueKnown k v
OpKnown k (call c args) = CalleeKnown k c args
OpKnown k (throw s t d) = k.types t × k.destructors d
OpKnown k o = ⊤

-- so is what the operations of a program name; the runtime throws a bad_exception, which needs no destructor
pub record CodeKnown (k : Known) (code : Code) : Type 0 where
  pub operations : (f p : ℕ) (o : Op) → code.op_at f p ≡ Some (plain o) → OpKnown k o
  pub bad : k.types bad_row
  pub none : k.destructors None

-- each step keeps that
abbrev pub StepsKeepLives : Type 1
StepsKeepLives = (k : Known) (code : Code) (st next : State) → CodeKnown k code → WorldKnown k st.world → step code st ≡ goes_to next → WorldKnown k next.world

-- nothing is asked but that what installs a handler is given a function
abbrev pub anything : Known
anything = record { types = λ t. ⊤; destructors = λ d. ⊤; handlers = λ n. ⊤ }

-- types of a program, functions that take an object alone, and functions without parameters
abbrev pub known_in : Regions → Known
known_in r = record { types = λ t. t < length r.types; destructors = λ d. destructor_test r d ≡ true; handlers = λ n. (n < length r.functions) × ((function_at r n).parameters ≡ 0) }

-- what the operations of a well-formed program name is there
abbrev pub CodeIsKnown : Type 0
CodeIsKnown = (r : Regions) → is_well_formed r ≡ true → bad_row < length r.types → CodeKnown anything (code_of (unit_of r)) → CodeKnown (known_in r) (code_of (unit_of r))

-- so what is known as a handler is a function of the linear code that takes nothing
abbrev pub HandlersTakeNothing : Type 0
HandlersTakeNothing = (r : Regions) (h : Option ℕ) (m : ℕ) → HandlerKnown (known_in r) h → h ≡ Some m → (m < length (unit_of r).functions) × ((code_at (unit_of r) m).parameters ≡ 0)

-- and each step keeps that what live exceptions and handlers name is there
abbrev pub ProgramsKeepLives : Type 0
ProgramsKeepLives = (r : Regions) (st next : State) → CodeKnown (known_in r) (code_of (unit_of r)) → WorldKnown (known_in r) st.world → step (code_of (unit_of r)) st ≡ goes_to next → WorldKnown (known_in r) next.world
