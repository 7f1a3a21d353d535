-- What regions and linear code work on. An address begins at a global, at a slot of a call or at an exception object; calls and
-- exceptions have numbers that are never used again. So an address says which bytes it means at a machine once each call has its
-- frame and each exception its slot, and those of calls that are over mean nothing.
use Rattle.std.specs.Prelude.{ℕ, ◌+◌, ℤ, Bool, false, not, ◌&&◌, ◌==◌, List, [], ◌∷◌, ◌++◌, map, filter, Option, Some, None, if◌then◌else◌}
use Rattle.run_items.specs.declared.item.Item.{Item}
use Rattle.eh_outer.specs.declared.module.Reply.{Reply}
use Rattle.meaning_forms.specs.World.{Installed}
use Rattle.region_forms.specs.Caught.{Entry}

-- where an address begins: at a global, at a slot of a call, or at an exception object
pub data Base : Type 0 where
  of_global : ℕ → Base
  of_variable : (call slot : ℕ) → Base
  of_exception : ℕ → Base

-- a number of bytes from where the address begins
pub record Address : Type 0 where
  pub base : Base
  pub offset : ℕ

-- What a slot holds that is no variable: nothing yet, a number, or an address; a landing pad's slot holds an exception that travels
-- towards a target, the number of frames below it, or the number of a forced unwind.
pub data Word : Type 0 where
  nothing : Word
  number_word : ℤ → Word
  address_word : Address → Word
  flying : (exception target : ℕ) → Word
  unwinding : ℤ → Word

-- a call by its number, and its slots that are no variables
pub record Frame : Type 0 where
  pub call : ℕ
  pub slots : ℕ → Word

-- an exception: being built, or native with its type, its destructor and the handlers kept with it, or foreign
pub data Exception : Type 0 where
  building : Exception
  native : (type : ℕ) (destructor : Option ℕ) (kept : Installed) → Exception
  foreign : (module_number token : ℕ) → Exception

-- a live exception has a number
pub record Live : Type 0 where
  pub number : ℕ
  pub exception : Exception

-- What both levels see. The ints in memory, by address; the live exceptions; the caught list, the number of exceptions that travel,
-- the handlers in effect; what is outside; the calls made so far, the greatest number of open ones; whether terminate is running.
pub record World : Type 0 where
  pub memory : Address → Option ℤ
  pub live : List Live
  pub last_number : ℕ
  pub caught : List Entry
  pub uncaught : ℕ
  pub installed : Installed
  pub input : List ℕ
  pub replies : List (List Reply)
  pub items : List Item
  pub calls : ℕ
  pub deepest : ℕ
  pub ending : Bool

-- two bases are the same
abbrev pub same_base : Base → Base → Bool
same_base (of_global g) (of_global h) = g == h
same_base (of_variable c s) (of_variable d t) = c == d && s == t
same_base (of_exception e) (of_exception f) = e == f
same_base _ _ = false

-- two addresses are the same
abbrev pub same_address : Address → Address → Bool
same_address a b = a.offset == b.offset && same_base a.base b.base

-- so many bytes behind an address
abbrev pub behind : Address → ℕ → Address
behind a n = record { base = a.base; offset = a.offset + n }

-- the address of an exception object
abbrev pub object_address : ℕ → Address
object_address e = record { base = of_exception e; offset = 0 }

-- an int is written to memory
abbrev pub written : Address → ℤ → World → World
written a v w = record w { memory = λ b. if same_address a b then Some v else w.memory b }

-- a slot holds a word
abbrev pub with_slot : ℕ → Word → Frame → Frame
with_slot s x f = record f { slots = λ t. if s == t then x else f.slots t }

-- the address in a word
abbrev pub address_in : Word → Option Address
address_in (address_word a) = Some a
address_in (flying e t) = Some (object_address e)
address_in _ = None

-- the number in a word
abbrev pub number_in : Word → Option ℤ
number_in (number_word v) = Some v
number_in _ = None

-- the exception that an address begins at
abbrev pub exception_of : Option Address → ℕ
exception_of (Some a) = elim a.base [ of_global g ↦ 0 | of_variable c s ↦ 0 | of_exception e ↦ e ]
exception_of None = 0

-- the exception whose object's address a slot holds
abbrev pub exception_in_slot : Frame → ℕ → ℕ
exception_in_slot f s = exception_of (address_in (f.slots s))

-- an item comes after those so far
abbrev pub with_item : Item → World → World
with_item i w = record w { items = w.items ++ i ∷ [] }

-- the exception with a number in a list
abbrev pub exception_in : List Live → ℕ → Exception
exception_in [] e = building
exception_in (x ∷ xs) e = if x.number == e then x.exception else exception_in xs e

-- the live exception with a number
abbrev pub exception_at : World → ℕ → Exception
exception_at w e = exception_in w.live e

-- the type of a native exception; a foreign one has none
abbrev pub exception_type : Exception → Option ℕ
exception_type (native t d kept) = Some t
exception_type _ = None

-- the type of the exception with a number
abbrev pub type_at : World → ℕ → Option ℕ
type_at w e = exception_type (exception_at w e)

-- an exception in place of the one with its number
abbrev pub replaced : ℕ → Exception → Live → Live
replaced e x y = if y.number == e then record { number = e; exception = x } else y

-- the world in which the exception with a number is another
abbrev pub with_exception : ℕ → Exception → World → World
with_exception e x w = record w { live = map (replaced e x) w.live }

-- the world in which an exception is no longer live
abbrev pub without_exception : ℕ → World → World
without_exception e w = record w { live = filter (λ x. not (x.number == e)) w.live }
