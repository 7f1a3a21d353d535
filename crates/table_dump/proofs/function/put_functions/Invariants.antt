use Rattle.std.proofs.Common.{◌≡◌, ◌++◌, List, length}
use Rattle.std.specs.Prelude.{flat_map}
use Rattle.eh_bytes.specs.Memory.{memory_of}
use Rattle.elf_image.specs.Clean.{Function}
use Rattle.frame_read.specs.CieFolds.{AreFolds}
use Rattle.table_dump.specs.Seen.{AreFunctions}
use Rattle.table_dump.specs.Dump.{function_text}
use Rattle.table_dump.proofs.function.put_functions.Given as goal

abbrev pub invariant-fdes : goal.invariant-fdes
invariant-fdes l =
    AreFolds (memory_of l.memory) l.folds ×
    ((gs : List Function) → AreFunctions (memory_of l.memory) l.frames l.fdes gs →
    (more : List Function) × AreFunctions (memory_of l.memory) l.frames l.rest more ×
    (l.initial.out.items ++ flat_map function_text gs ≡ l.out.items ++ flat_map function_text more))

abbrev pub decreases-fdes : goal.decreases-fdes
decreases-fdes l = length l.rest
