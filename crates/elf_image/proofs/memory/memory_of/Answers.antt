use Rattle.std.proofs.Common.{rules, ◌≡◌, ◌<◌, ◌^◌, length, map}
use Rattle.eh_bytes.specs.Memory as memories
use Rattle.elf_image.specs.Loads.{part_of}
use Rattle.elf_image.proofs.Sound.{parts_apart, parts_in_range}
use Rattle.elf_image.proofs.memory.memory_of.Goals as goal

pub invariant_of-result : goal.invariant_of-result
invariant_of-result c =
    let file = c.args.file.now in
    let made : map memories.part_of c.in_ok-parts.parts.items ≡ map (part_of file) c.args.loads.now = c.in_ok-parts.ensures in
    let short : length file < 2 ^ 63 = search rules in
    record {
      apart = parts_apart file c.args.loads.now c.in_ok-parts.parts.items c.requires made;
      in_range = parts_in_range file c.args.loads.now c.in_ok-parts.parts.items short c.requires made;
    }
