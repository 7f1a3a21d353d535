use Rattle.std.proofs.Common.{◌≡◌, ◌+◌, ◌*◌, ◌≤◌, ◌^◌, length}
use Rattle.std.specs.Prelude.{option_map}
use Rattle.table_forms.specs.Fault.{least, joined}
use Rattle.table_forms.specs.Seen.{fault_of}
use Rattle.elf_image.specs.Loads.{low_faults}
use Rattle.elf_image.proofs.load.low_refusal.Given as goal

abbrev pub invariant-loads : goal.invariant-loads
invariant-loads l =
    (least (low_faults 0 l.loads) ≡ joined (option_map fault_of l.least) (least (low_faults l.before l.rest))) ×
    (l.before + length l.rest * 2 ^ 64 ≤ length l.loads * 2 ^ 64)

abbrev pub decreases-loads : goal.decreases-loads
decreases-loads l = length l.rest
