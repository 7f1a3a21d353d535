use Rattle.std.proofs.Common.{◌≡◌, take, map}
use Rattle.region_ir.specs.View.{row_of}
use Rattle.landing_pads.proofs.program.rows_copied.Given as goal

abbrev pub invariant-loop-row : goal.invariant-loop-row
invariant-loop-row l = map row_of l.copied.items ≡ map row_of (take l.row-index l.rows)
