-- Where segments lie, apart from what they hold.
use Rattle.std.specs.Prelude.{◌≡◌, ◌<◌, ◌≤◌, ℕ, ◌+◌, ◌^◌, List, length, map, slice_get, Some}
use Rattle.eh_bytes.specs.declared.segment.Segment.{Segment}

-- a segment's first address, its number of bytes, and the place of its bytes in a file
pub record Extent : Type 0 where
  pub address : ℕ
  pub size : ℕ
  pub file_at : ℕ

abbrev pub extent_of : Segment → Extent
extent_of segment = record { address = segment.address; size = length segment.bytes.items; file_at = segment.file_at }

abbrev pub extents_of : List Segment → List Extent
extents_of parts = map extent_of parts

-- the address lies in the extent
abbrev pub Holds : Extent → ℕ → Type 0
Holds extent a = (extent.address ≤ a) × (a < extent.address + extent.size)

-- no address lies in two of them
abbrev pub AreApart : List Extent → Type 0
AreApart extents = (i j a : ℕ) (s t : Extent) → slice_get extents i ≡ Some s → slice_get extents j ≡ Some t → Holds s a → Holds t a → i ≡ j

-- each ends at or below the end of the address space, and its place in the file is that of a u64 to the end
abbrev pub AreInRange : List Extent → Type 0
AreInRange extents = (i : ℕ) (s : Extent) → slice_get extents i ≡ Some s → (s.address + s.size ≤ 2 ^ 64) × (s.file_at + s.size < 2 ^ 64)

-- each ends at or below the limit
abbrev pub AreBelow : ℕ → List Extent → Type 0
AreBelow limit extents = (i : ℕ) (s : Extent) → slice_get extents i ≡ Some s → s.address + s.size ≤ limit
