-- How many bytes of ints lie behind a place, where it is known how many lie behind the address that each slot holds.
use Rattle.std.specs.Prelude.{◌≡◌, ℕ, ◌+◌, ◌≤◌, ◌%◌, List, Some, slice_get, if◌then◌else◌}
use Rattle.region_forms.specs.Form.{Slot, Root, in_slot, through, in_global, Place}
use Rattle.region_forms.specs.WellFormed.{is_variable}

-- by slots: the bytes behind the address that a slot holds
abbrev pub Reach : Type 0
Reach = ℕ → ℕ

-- a variable has all of its slot; any other slot has one int
abbrev pub ints_of : Slot → ℕ
ints_of s = if is_variable s.kind then s.size else 4

-- so many bytes from an offset on
abbrev pub RootHasRoom : Reach → List Slot → Root → (offset bytes : ℕ) → Type 0
RootHasRoom reach slots (in_slot s) o n = (slot : Slot) → slice_get slots s ≡ Some slot → o + n ≤ ints_of slot
RootHasRoom reach slots (through s) o n = o + n ≤ reach s
RootHasRoom reach slots (in_global g) o n = o + n ≤ 4

-- a place begins at a word, and so many bytes lie behind it
abbrev pub HasRoom : Reach → List Slot → Place → ℕ → Type 0
HasRoom reach slots q n = (q.offset % 4 ≡ 0) × RootHasRoom reach slots q.root q.offset n
