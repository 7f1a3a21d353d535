-- Where the objects of a source stand in the memory of regions.
use Rattle.std.specs.Prelude.{◌≡◌, ℕ, ◌<◌, ℤ, List, Option, Some, length}
use Rattle.cxx_ast.specs.Plain.{Checked}
use Rattle.meaning_forms.specs.Class.{ObjectType}
use Rattle.meaning_forms.specs.Part.{cell, part_at}
use Rattle.meaning_forms.specs.World.{Reference, World as SourceWorld, object_at}
use Rattle.region_forms.specs.Layout.{Layout}
use Rattle.region_forms.specs.World.{Base, Address}
use Rattle.region_simulation.specs.Typed.{type_along, offset_along, Shaped}

-- an object that stands somewhere: the base that it begins at, and its type
pub record Stood : Type 0 where
  pub base : Base
  pub type : ObjectType

-- Where each object stands, by its number. One that is not made yet stands nowhere, nor does a variable whose scope is left: its slot
-- may be that of another by then. Nor does an exception's object once the exception is freed, since its memory may then be another's.
abbrev pub Places : Type 0
Places = ℕ → Option Stood

-- the address of the part at the end of a path in an object that stands
abbrev pub address_along : Layout → Checked → Stood → List ℕ → Address
address_along l p x path = record { base = x.base; offset = offset_along l p x.type path }

-- a reference names a part of type t, which stands at an address
pub record Refers (l : Layout) (p : Checked) (at : Places) (r : Reference) (t : ObjectType) (a : Address) : Type 0 where
  pub stood : Stood
  pub stands : at r.object ≡ Some stood
  pub typed : type_along p stood.type r.path ≡ Some t
  pub address : a ≡ address_along l p stood r.path

-- Memory holds what objects hold. No two of them begin at one base, each is a tree of the parts of its type, and each int that is set in
-- one is in memory at its address. Of an int that is not set nothing is said: its bytes may have been those of another.
pub record Remembers (l : Layout) (p : Checked) (at : Places) (w : SourceWorld) (memory : Address → Option ℤ) : Type 0 where
  pub made : (o : ℕ) (x : Stood) → at o ≡ Some x → o < length w.objects
  pub apart : (o q : ℕ) (x y : Stood) → at o ≡ Some x → at q ≡ Some y → x.base ≡ y.base → o ≡ q
  pub shaped : (o : ℕ) (x : Stood) → at o ≡ Some x → Shaped p x.type (object_at w o)
  pub holds : (o : ℕ) (x : Stood) (path : List ℕ) (v : ℤ) → at o ≡ Some x → part_at (object_at w o) path ≡ cell (Some v)
      → memory (address_along l p x path) ≡ Some v
