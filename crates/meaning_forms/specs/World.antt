-- What a running program has: its objects, its exceptions, its input and output, and what is left to spend.
use Rattle.std.specs.Prelude.{ℕ, ℤ, ◌==◌, List, [], ◌∷◌, ◌++◌, map, filter, not, Option, Some, None, slice_get, slice_set, unwrap_or, if◌then◌else◌}
use Rattle.cxx_ast.specs.Plain.{Checked}
use Rattle.eh_outer.specs.declared.module.Reply.{Reply}
use Rattle.run_items.specs.declared.item.Item.{Item}
use Rattle.meaning_forms.specs.Class.{ObjectType, member_place}
use Rattle.meaning_forms.specs.Part.{Part, cell, part_at, with_part_at, path_to_class}

-- an object by its number, and a path from it to one of its parts
pub record Reference : Type 0 where
  pub object : ℕ
  pub path : List ℕ

-- the numbers of the functions set by set_terminate and set_unexpected
pub record Installed : Type 0 where
  pub terminate_handler : Option ℕ
  pub unexpected_handler : Option ℕ

-- an exception: still being built, or native with the number of its object and the handlers kept with it, or foreign
pub data Exception : Type 0 where
  building : Exception
  native : ObjectType → (object : ℕ) → (kept : Installed) → Exception
  foreign : (module_number token : ℕ) → Exception

-- a live exception has a number
pub record Live : Type 0 where
  pub number : ℕ
  pub exception : Exception

-- An object's number is its place in `objects`, the globals first. It is not used again once the object is destroyed. The replies
-- are those left to each module; the two handlers are those in effect; `deepest` is the greatest number of open calls so far.
pub record World : Type 0 where
  pub objects : List Part
  pub input : List ℕ
  pub items : List Item
  pub live : List Live
  pub last_number : ℕ
  pub replies : List (List Reply)
  pub installed : Installed
  pub turns : ℕ
  pub open_calls : ℕ
  pub deepest : ℕ

-- a reference to an object itself
abbrev pub whole : ℕ → Reference
whole o = record { object = o; path = [] }

-- a reference through which no checked program reads or writes
abbrev pub nowhere : Reference
nowhere = whole 0

-- a reference to the i-th part of what a reference names
abbrev pub part : ℕ → Reference → Reference
part i r = record { object = r.object; path = r.path ++ i ∷ [] }

-- the object with a number
abbrev pub object_at : World → ℕ → Part
object_at w o = unwrap_or (slice_get w.objects o) (cell None)

-- the part that a reference names
abbrev pub part_of : World → Reference → Part
part_of w r = part_at (object_at w r.object) r.path

-- the world after an int is written to a cell
abbrev pub written : World → Reference → ℤ → World
written w r v = record w { objects = slice_set w.objects r.object (with_part_at (object_at w r.object) r.path (cell (Some v))) }

-- what a reference names as an object of class k: itself, or its base of that class
abbrev pub as_class : World → ℕ → Reference → Reference
as_class w k r = record { object = r.object; path = r.path ++ path_to_class k (part_of w r) }

-- the i-th member of class k in what a reference names
abbrev pub member : Checked → World → ℕ → ℕ → Reference → Reference
member p w k i r = part (member_place p k i) (as_class w k r)

-- the exception with a number in a list
abbrev pub exception_in : List Live → ℕ → Exception
exception_in [] e = building
exception_in (x ∷ xs) e = if x.number == e then x.exception else exception_in xs e

-- the live exception with a number
abbrev pub exception_at : World → ℕ → Exception
exception_at w e = exception_in w.live e

-- the type of a native exception; a foreign one has none
abbrev pub exception_type : Exception → Option ObjectType
exception_type (native t o kept) = Some t
exception_type _ = None

-- the type of the exception with a number
abbrev pub type_at : World → ℕ → Option ObjectType
type_at w e = exception_type (exception_at w e)

-- an exception in place of the one with its number
abbrev pub replaced : ℕ → Exception → Live → Live
replaced e x y = if y.number == e then record { number = e; exception = x } else y

-- the world in which the exception with a number is another
abbrev pub with_exception : World → ℕ → Exception → World
with_exception w e x = record w { live = map (replaced e x) w.live }

-- the world in which an exception is no longer live
abbrev pub without_exception : World → ℕ → World
without_exception w e = record w { live = filter (λ x. not (x.number == e)) w.live }
