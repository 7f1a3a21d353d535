use Rattle.std.proofs.Common.{◌++◌, length}
use Rattle.table_forms.specs.Fde as forms
use Rattle.frame_read.specs.FdeRows.{AreRows}
use Rattle.table_dump.specs.Rows.{rows_text}
use Rattle.table_dump.proofs.Locations.{Printed}
use Rattle.table_dump.proofs.frame.put_rows_at.Given as goal

abbrev pub invariant-locations : goal.invariant-locations
invariant-locations l =
    (f : forms.Fde) → AreRows l.fn.rows f → Printed f (l.initial.out.items ++ rows_text f) l.out.items l.walk l.rest

abbrev pub decreases-locations : goal.decreases-locations
decreases-locations l = length l.rest
