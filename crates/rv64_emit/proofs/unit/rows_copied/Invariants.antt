use Rattle.std.proofs.Common.{◌≡◌, map, take}
use Rattle.region_ir.specs.View.{row_of}
use Rattle.machine_forms.specs.Emitted.{listed_type}
use Rattle.rv64_emit.proofs.unit.rows_copied.Given as goal

abbrev pub invariant-loop-row : goal.invariant-loop-row
invariant-loop-row l = l.copied.items ≡ map listed_type (map row_of (take l.row-index l.rows))
