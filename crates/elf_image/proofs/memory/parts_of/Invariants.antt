use Rattle.std.proofs.Common.{◌≡◌, ◌++◌, length, map}
use Rattle.std.specs.List.{AllByRecursion}
use Rattle.eh_bytes.specs.Memory as memories
use Rattle.elf_image.specs.Loads.{part_of, Placed}
use Rattle.elf_image.proofs.memory.parts_of.Given as goal

abbrev pub invariant-loads : goal.invariant-loads
invariant-loads l =
    (map (part_of l.file) l.loads ≡ map memories.part_of l.parts.items ++ map (part_of l.file) l.rest) × AllByRecursion (Placed (length l.file)) l.rest

abbrev pub decreases-loads : goal.decreases-loads
decreases-loads l = length l.rest
