use Rattle.std.proofs.Common.{◌≡◌, ◌++◌, ◌+◌, ◌*◌, ◌≤◌, length, map}
use Rattle.std.specs.List.{AllByRecursion}
use Rattle.eh_bytes.specs.Memory.{part_of}
use Rattle.elf_image.specs.Laid.{loads_from}
use Rattle.elf_image.specs.CanWrite.{HasWord}
use Rattle.elf_image.proofs.laid.loads_for.Given as goal

abbrev pub invariant-segments : goal.invariant-segments
invariant-segments l =
    (loads_from 64 l.initial.from (map part_of l.segments) ≡ l.loads.items ++ loads_from l.place l.from (map part_of l.rest)) ×
    (AllByRecursion HasWord (map part_of l.rest) → AllByRecursion HasWord (map part_of l.segments)) ×
    (l.place + 56 * length l.rest ≤ 64 + 56 * length l.segments)

abbrev pub decreases-segments : goal.decreases-segments
decreases-segments l = length l.rest
