-- The search for the least location above a place, inside a region, to which instructions move.
use Rattle.std.specs.Prelude.{ℕ, ◌+◌, ◌^◌, ◌&&◌, nat_lt, nat_le, min, Bool, Option, Some, None, if◌then◌else◌}
use Rattle.table_forms.specs.Instruction.{Instruction, go_to, advance}
use Rattle.frame_read.specs.declared.search.Search.{Search}

abbrev pub is_next : Search → ℕ → Bool
is_next s l = nat_lt s.pc l && nat_le s.region.start l && nat_lt l (s.region.start + s.region.length)

abbrev pub lesser : Option ℕ → ℕ → Option ℕ
lesser None l = Some l
lesser (Some m) l = Some (min m l)

-- a location above 64 bits counts as the first of those
abbrev pub reached : Search → ℕ → Search
reached s l = record s { location = min l (2 ^ 64); least = if is_next s l then lesser s.least l else s.least }

abbrev pub searched : Search → Instruction → Search
searched s (go_to l) = reached s l
searched s (advance n) = reached s (s.location + n)
searched s _ = s
