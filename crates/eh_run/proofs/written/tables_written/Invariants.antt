use Rattle.std.proofs.Common.{◌≡◌, option_map, length}
use Rattle.eh_bytes.specs.Memory.{memory_of}
use Rattle.table_forms.specs.Fault.{least, joined}
use Rattle.table_forms.specs.Seen.{fault_of}
use Rattle.eh_run.specs.Written.{tables_written}
use Rattle.eh_run.proofs.written.tables_written.Given as goal

abbrev pub invariant-fdes : goal.invariant-fdes
invariant-fdes l = least (tables_written (memory_of l.memory) l.fdes) ≡ joined (option_map fault_of l.least) (least (tables_written (memory_of l.memory) l.rest))

abbrev pub decreases-fdes : goal.decreases-fdes
decreases-fdes l = length l.rest
