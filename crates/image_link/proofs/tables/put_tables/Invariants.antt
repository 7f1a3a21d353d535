use Rattle.std.proofs.Common.{◌≡◌, ◌++◌, ◌+◌, length, map}
use Rattle.eh_bytes.specs.Listed.{listed_frame, listed_function}
use Rattle.image_forms.specs.Placed.{placed_from}
use Rattle.image_forms.specs.Tables.{tables_bytes, linked_frames}
use Rattle.image_link.specs.Standing.{TablesWritten}
use Rattle.image_link.proofs.tables.put_tables.Given as goal

abbrev pub invariant-functions : goal.invariant-functions
invariant-functions l =
    (l.initial.out.items ++ tables_bytes l.ground.end (l.ground.base + length l.initial.out.items) (placed_from l.code (map listed_function l.functions)) ≡
    l.out.items ++ tables_bytes l.ground.end (l.ground.base + length l.out.items) (placed_from l.code (map listed_function l.rest))) ×
    (map listed_frame l.initial.fdes.items ++ linked_frames l.ground.end (l.ground.base + length l.initial.out.items) (placed_from l.code (map listed_function l.functions)) ≡
    map listed_frame l.fdes.items ++ linked_frames l.ground.end (l.ground.base + length l.out.items) (placed_from l.code (map listed_function l.rest))) ×
    (TablesWritten l.ground.end (l.ground.base + length l.out.items) (placed_from l.code (map listed_function l.rest)) →
    TablesWritten l.ground.end (l.ground.base + length l.initial.out.items) (placed_from l.code (map listed_function l.functions)))

abbrev pub decreases-functions : goal.decreases-functions
decreases-functions l = length l.rest
