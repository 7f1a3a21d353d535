-- The exceptions that the machine for linear code has, and those that the runtime keeps.
use Rattle.std.specs.Prelude.{◌≡◌, ℕ, suc, ◌+◌, ◌-◌, ◌*◌, ◌<◌, ◌≤◌, ◌==◌, Bool, true, false, ℤ, pos, negsuc, List, [], ◌∷◌, ◌++◌, length, Option, Some, None, is_some, if◌then◌else◌}
use Rattle.meaning_forms.specs.Class.{contains}
use Rattle.meaning_forms.specs.World.{Installed}
use Rattle.caught_stack.specs.declared.header.Header.{Header}
use Rattle.caught_stack.specs.declared.header.HeaderKind.TheVariants.{Building, Native, Foreign}
use Rattle.caught_stack.specs.Live.{Live as Headers, header_of, live_count}
use Rattle.caught_stack.specs.Caught.{Caught}
use Rattle.caught_stack.specs.Exceptions.{Exceptions, IsSound}
use Rattle.cxa_runtime.specs.Objects.{object_of, is_thrown}
use Rattle.cxa_runtime.specs.World as abi
use Rattle.region_forms.specs.Caught.{Entry}
use Rattle.region_forms.specs.World.{of_exception, Exception, building, native, foreign, Live, Frame, World, exception_in_slot}
use Rattle.linear_forms.specs.Linear.{UnitCode}
use Rattle.linear_forms.specs.Stub.{Function, compiled, end_catch, terminating, call_unexpected}
use Rattle.linear_forms.specs.Activation.{Activation}
use Rattle.machine_forms.specs.StubCode.{stub_words}
use Rattle.machine_forms.specs.Emitted.{function_first}
use Rattle.machine_simulation.specs.Plan.{Plan}

-- where functions, records of types and the objects of exceptions are
pub record Addresses : Type 0 where
  pub unit : UnitCode
  pub base : ℕ
  pub object : ℕ → ℕ

abbrev pub addresses_of : Plan → Addresses
addresses_of p = record { unit = p.unit; base = p.base; object = λ e. p.at (of_exception e) }

-- what the machine for linear code has of exceptions, and what the runtime keeps of them
pub record LinearExceptions : Type 0 where
  pub live : List Live
  pub last_number : ℕ
  pub caught : List Entry
  pub uncaught : ℕ
  pub installed : Installed

abbrev pub exceptions_in : World → LinearExceptions
exceptions_in v = record { live = v.live; last_number = v.last_number; caught = v.caught; uncaught = v.uncaught; installed = v.installed }

pub record KeptExceptions : Type 0 where
  pub exceptions : Exceptions
  pub terminate_handler : ℕ
  pub unexpected_handler : ℕ

abbrev pub kept_by : abi.World → KeptExceptions
kept_by w = record { exceptions = w.exceptions; terminate_handler = w.terminate_handler; unexpected_handler = w.unexpected_handler }

-- ---- live exceptions

-- the exception with a number, if it is live; each number stands once
abbrev pub live_in : List Live → ℕ → Option Exception
live_in [] e = None
live_in (x ∷ xs) e = if x.number == e then Some x.exception else live_in xs e

abbrev pub AreOnce : List Live → Type 0
AreOnce [] = Unit {0}
AreOnce (x ∷ xs) = (live_in xs x.number ≡ None) × AreOnce xs

-- the exceptions whose destructors run: end_catch waits for them
abbrev pub destroyed_by : Function → Frame → List ℕ
destroyed_by (compiled n) x = []
destroyed_by end_catch x = exception_in_slot x 0 ∷ []
destroyed_by terminating x = []
destroyed_by call_unexpected x = []

abbrev pub destroyed : List Activation → List ℕ
destroyed [] = []
destroyed (a ∷ fs) = destroyed_by a.function a.frame ++ destroyed fs

abbrev pub AreDistinct : List ℕ → Type 0
AreDistinct [] = Unit {0}
AreDistinct (e ∷ es) = (contains es e ≡ false) × AreDistinct es

-- ---- addresses

-- a function's first byte; 0 stands for a handler or a destructor that is not there
abbrev pub function_address : Addresses → Option ℕ → ℕ
function_address t None = 0
function_address t (Some n) = t.base + 4 * (stub_words + function_first t.unit n)

abbrev pub IsFunction : Addresses → Option ℕ → ℕ → Type 0
IsFunction t None a = a ≡ function_address t None
IsFunction t (Some n) a = (a ≡ function_address t (Some n)) × (n < length t.unit.functions)

-- the record of a type
abbrev pub record_address : ℕ → ℕ → ℕ
record_address base type = base - 24 * (type + 1)

-- ---- headers

abbrev pub HandlersAre : Addresses → Installed → ℕ × ℕ → Type 0
HandlersAre t i kept = IsFunction t i.terminate_handler kept.0 × IsFunction t i.unexpected_handler kept.1

-- a header is that of an exception; while a destructor of it runs, the runtime counts it as building
abbrev pub HeaderIs : Addresses → (destroyed : Bool) → Exception → Header → Type 0
HeaderIs t true x h = h.kind ≡ Building
HeaderIs t false building h = h.kind ≡ Building
HeaderIs t false (native type d kept) h = ((k : ℕ) × (h.kind ≡ Native (record_address t.base type) k) × IsFunction t d k) × HandlersAre t kept h.handlers
HeaderIs t false (foreign k token) h = h.kind ≡ Foreign k token

-- a header in a slot is of a live exception, whose object is that of the slot
pub record SlotIs (t : Addresses) (gone : List ℕ) (lives : List Live) (slot : ℕ) (h : Header) : Type 0 where
  pub exception : Exception
  pub live : live_in lives h.number ≡ Some exception
  pub object : t.object h.number ≡ object_of slot
  pub is : HeaderIs t (contains gone h.number) exception h

-- a slot has the header of the exception with a number
pub record HasHeader (headers : Headers) (e slot : ℕ) : Type 0 where
  pub header : Header
  pub there : header_of headers slot ≡ Some header
  pub number : header.number ≡ e

-- ---- caught exceptions

-- how many handlers have an exception, negative while it travels again
abbrev pub count_of : Entry → ℤ
count_of x = if x.again then negsuc x.more else pos (suc x.more)

-- a caught one was thrown, and no destructor of it runs
abbrev pub IsCaught : Headers → (e slot : ℕ) → Type 0
IsCaught headers e slot = (h : HasHeader headers e slot) × (is_thrown h.header.kind ≡ true)

abbrev pub AreCaught : Headers → List Entry → Caught → Type 0
AreCaught headers [] [] = Unit {0}
AreCaught headers (x ∷ xs) ((slot, n) ∷ more) = IsCaught headers x.number slot × (n ≡ count_of x) × AreCaught headers xs more
AreCaught headers xs ys = ⊥

-- an exception whose destructor runs is native
pub record IsLeft (lives : List Live) (e : ℕ) : Type 0 where
  pub type : ℕ
  pub destructor : Option ℕ
  pub kept : Installed
  pub live : live_in lives e ≡ Some (native type destructor kept)

-- ---- all of it

-- The runtime keeps the exceptions that the machine for linear code has, those of a list being destroyed: a header for each that is live and
-- no others, with numbers that stand once and are at most the last one; the same are caught and so often, and as many travel; and the same
-- handlers are in effect.
pub record ExceptionsMatch (t : Addresses) (gone : List ℕ) (v : LinearExceptions) (w : KeptExceptions) : Type 0 where
  pub sound : IsSound w.exceptions
  pub headers : (slot : ℕ) (h : Header) → header_of w.exceptions.live slot ≡ Some h → SlotIs t gone v.live slot h
  pub live : (e : ℕ) (x : Exception) → live_in v.live e ≡ Some x → (slot : ℕ) × HasHeader w.exceptions.live e slot
  pub count : live_count w.exceptions.live ≡ length v.live
  pub once : AreOnce v.live
  pub numbers : (e : ℕ) (x : Exception) → live_in v.live e ≡ Some x → e ≤ v.last_number
  pub caught : AreCaught w.exceptions.live v.caught w.exceptions.caught
  pub uncaught : w.exceptions.uncaught ≡ v.uncaught
  pub terminate_handler : IsFunction t v.installed.terminate_handler w.terminate_handler
  pub unexpected_handler : IsFunction t v.installed.unexpected_handler w.unexpected_handler
  pub distinct : AreDistinct gone
  pub left : (e : ℕ) → contains gone e ≡ true → IsLeft v.live e

-- the exceptions that are live are those of the plan, each with 4 KiB of ints
pub record PlanHas (p : Plan) (lives : List Live) : Type 0 where
  pub live : (e : ℕ) → p.live (of_exception e) ≡ is_some (live_in lives e)
  pub size : (e : ℕ) → p.live (of_exception e) ≡ true → p.size (of_exception e) ≡ 0x1000
  pub ints : (e : ℕ) → p.live (of_exception e) ≡ true → p.ints (of_exception e) ≡ true
