-- The live exception objects: a header for each, by its slot.
use Rattle.std.specs.Prelude.{ℕ, ◌&&◌, not, nat_lt, Bool, List, replicate, slice_get, count_by, Option, None, is_some, unwrap_or}
use Rattle.caught_stack.specs.declared.header.Header.{Header}

-- slots, each with the header of a live exception or vacant
abbrev pub Live : Type 0
Live = List (Option Header)

-- how many exceptions can be live (profile)
abbrev pub slots : ℕ
slots = 1024

unfoldable pub all_vacant : Live
all_vacant = replicate slots None

-- the header of a live exception, nothing where the slot is not live
abbrev pub header_of : Live → ℕ → Option Header
header_of live slot = unwrap_or (slice_get live slot) None

abbrev pub is_live : Live → ℕ → Bool
is_live live slot = is_some (header_of live slot)

-- one of the slots, and not live
abbrev pub is_vacant : Live → ℕ → Bool
is_vacant live slot = nat_lt slot slots && not (is_live live slot)

-- how many exceptions are live
abbrev pub live_count : Live → ℕ
live_count live = count_by is_some live
