use Rattle.std.proofs.Common.{◌≡◌, length, true}
use Rattle.std.specs.List.{list_all}
use Rattle.eh_bytes.specs.Memory.{memory_of}
use Rattle.raise_core.specs.Reads.{is_readable}
use Rattle.cxa_runtime.specs.Unexpected.{first_reading}
use Rattle.cxa_runtime.proofs.readings.first_reading.Given as goal

abbrev pub invariant-fdes : goal.invariant-fdes
invariant-fdes l =
    (first_reading (memory_of l.memory) l.address l.list l.fn.fdes ≡ first_reading (memory_of l.memory) l.address l.list l.rest) ×
    (list_all (is_readable (memory_of l.memory)) l.rest ≡ true)

abbrev pub decreases-fdes : goal.decreases-fdes
decreases-fdes l = length l.rest
