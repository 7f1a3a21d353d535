use Rattle.std.proofs.Common.{◌≡◌, ◌++◌, length, map, ◌<◌, ◌^◌, true}
use Rattle.std.specs.Int.{w32, to_le_bytes}
use Rattle.eh_bytes.specs.Listed.{listed_frame}
use Rattle.eh_write.specs.WrittenFrames.{fdes_bytes}
use Rattle.image_forms.specs.Tables.{rows_from}
use Rattle.image_link.proofs.frames.rows_from.Given as goal

abbrev pub invariant-fdes : goal.invariant-fdes
invariant-fdes l =
    (rows_from l.cie l.place (map listed_frame l.fdes) ≡ l.rows.items ++ rows_from l.cie l.place_at (map listed_frame l.rest)) ×
    (l.left ≡ fdes_bytes true l.cie l.place_at (map listed_frame l.rest) ++ to_le_bytes w32 0) × (length l.left < 2 ^ 32)

abbrev pub decreases-fdes : goal.decreases-fdes
decreases-fdes l = length l.rest
