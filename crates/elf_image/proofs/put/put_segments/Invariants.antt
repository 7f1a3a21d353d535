use Rattle.std.proofs.Common.{◌≡◌, ◌++◌, length, map}
use Rattle.eh_bytes.specs.Memory.{part_of}
use Rattle.elf_image.specs.Written.{segments_from}
use Rattle.elf_image.proofs.put.put_segments.Given as goal

abbrev pub invariant-segments : goal.invariant-segments
invariant-segments l =
    l.initial.out.items ++ segments_from (length l.initial.out.items) (map part_of l.segments) ≡
    l.out.items ++ segments_from (length l.out.items) (map part_of l.rest)

abbrev pub decreases-segments : goal.decreases-segments
decreases-segments l = length l.rest
