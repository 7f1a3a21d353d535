use Rattle.std.proofs.Common.{◌≡◌, ◌≤◌, length}
use Rattle.eh_bytes.specs.Memory.{part_of}
use Rattle.table_forms.specs.Header.{rows_within}
use Rattle.frame_read.specs.SeenHeader.{row_rest}
use Rattle.frame_read.proofs.header.rows_of.Given as goal

abbrev pub invariant-rows : goal.invariant-rows
invariant-rows l =
    (l.place ≤ length l.segment.bytes.items) ×
    (rows_within l.count (part_of l.segment) l.start l.first ≡ row_rest (part_of l.segment) l.start l.rows.items l.left l.place)

abbrev pub decreases-rows : goal.decreases-rows
decreases-rows l = l.left
