use Rattle.std.proofs.Common.{◌≡◌, ◌-◌, ◌*◌, ◌≤◌, ◌^◌, [], length, take, drop}
use Rattle.std.specs.Prelude.{option_map}
use Rattle.table_forms.specs.Fault.{least, joined}
use Rattle.table_forms.specs.Seen.{fault_of}
use Rattle.elf_image.specs.Loads.{load_faults}
use Rattle.elf_image.proofs.load.load_refusal.Given as goal

abbrev pub invariant-loads : goal.invariant-loads
invariant-loads l =
    (least (load_faults l.len 0 [] l.loads) ≡
    joined (option_map fault_of l.least) (least (load_faults l.len l.before (take l.at l.loads) (drop l.at l.loads)))) ×
    (l.at ≤ length l.loads) × (l.before ≤ l.at * 2 ^ 64)

abbrev pub decreases-loads : goal.decreases-loads
decreases-loads l = length l.loads - l.at
