use Rattle.std.proofs.Common.{◌≡◌, ◌++◌, List, length}
use Rattle.std.specs.Prelude.{flat_map}
use Rattle.eh_bytes.specs.Memory.{memory_of}
use Rattle.elf_image.specs.Clean.{CleanImage, Function}
use Rattle.table_dump.specs.Seen.{AreFunctions}
use Rattle.place_verdicts.specs.Image.{IsRead}
use Rattle.image_doubts.specs.Doubts.{function_doubts}
use Rattle.image_doubts.proofs.function.put_functions.Given as goal

abbrev pub invariant-fdes : goal.invariant-fdes
invariant-fdes l =
    ((gs : List Function) → AreFunctions (memory_of l.image.elf.segments) l.image.frames l.fdes gs → (more : List Function) × AreFunctions (memory_of l.image.elf.segments) l.image.frames l.rest more ×
    ((c : CleanImage) → IsRead l.image c →
    l.initial.out.items ++ flat_map (function_doubts (memory_of l.image.elf.segments) c.functions) gs ≡ l.out.items ++ flat_map (function_doubts (memory_of l.image.elf.segments) c.functions) more))

abbrev pub decreases-fdes : goal.decreases-fdes
decreases-fdes l = length l.rest
