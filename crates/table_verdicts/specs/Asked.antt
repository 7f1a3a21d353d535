-- What is asked of a routine's table, and of the types of its unit.
use Rattle.std.specs.Prelude.{⊤, ◌≡◌, ◌<◌, ◌≤◌, ℕ, suc, ◌*◌, ◌-◌, List, length, slice_get, Option, Some, None}
use Rattle.std.specs.List.{AllByRecursion}
use Rattle.region_forms.specs.Form.{TypeRow}
use Rattle.linear_forms.specs.Linear.{UnitCode}
use Rattle.machine_forms.specs.Routine.{Routine, op_byte}
use Rattle.image_forms.specs.Linkable.{BaseIsThere}

-- an index, which counts from 1, names a type, and not the entry of `catch (...)`
abbrev pub NamesType : List ℕ → ℕ → Type 0
NamesType types i = (t : ℕ) × (0 < i) × (slice_get types (i - 1) ≡ Some (suc t))

-- no list of a specification has the entry of `catch (...)`
abbrev pub ListsNameTypes : UnitCode → Type 0
ListsNameTypes u = AllByRecursion (λ g. AllByRecursion (AllByRecursion (NamesType g.types)) g.lists) u.functions

-- a pad does not stand at the first byte of its routine
abbrev pub PadIsInside : Routine → Option ℕ → Type 0
PadIsInside r None = ⊤
PadIsInside r (Some p) = 0 < op_byte r p

-- the table of a routine, in a unit with so many types
pub record TableIsAsked (rows : ℕ) (r : Routine) : Type 0 where
  pub pads : AllByRecursion (λ s. PadIsInside r s.pad) r.sites
  pub types : AllByRecursion (λ t. t ≤ rows) r.types
  pub lists : AllByRecursion (AllByRecursion (NamesType r.types)) r.lists

-- the types of a unit, whose records end at an address: each base is one of them, and no record stands at address 0
pub record TypesAreAsked (end : ℕ) (rows : List TypeRow) : Type 0 where
  pub bases : AllByRecursion (λ x. BaseIsThere (length rows) x.base) rows
  pub room : 24 * length rows < end
