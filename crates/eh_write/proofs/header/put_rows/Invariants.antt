use Rattle.std.proofs.Common.{◌≡◌, ◌++◌, length}
use Rattle.std.specs.Prelude.{flat_map}
use Rattle.eh_write.specs.WrittenHeader.{row_bytes}
use Rattle.eh_write.proofs.header.put_rows.Given as goal

abbrev pub invariant-rows : goal.invariant-rows
invariant-rows l = l.initial.out.items ++ flat_map (row_bytes l.start) l.rows ≡ l.out.items ++ flat_map (row_bytes l.start) l.rest

abbrev pub decreases-rows : goal.decreases-rows
decreases-rows l = length l.rest
