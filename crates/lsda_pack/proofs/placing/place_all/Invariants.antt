use Rattle.std.proofs.Common.{List, length}
use Rattle.eh_bytes.specs.Memory.{memory_of}
use Rattle.elf_image.specs.Clean.{Function}
use Rattle.lsda_pack.specs.Placings.{AreFunctions}
use Rattle.lsda_pack.proofs.PlacingTurns.{SoFar}
use Rattle.lsda_pack.proofs.placing.place_all.Given as goal

abbrev pub invariant-fdes : goal.invariant-fdes
invariant-fdes l = (gs : List Function) → AreFunctions (memory_of l.memory) l.fdes gs → SoFar (memory_of l.memory) l.loads l.placings.items l.rest gs

abbrev pub decreases-fdes : goal.decreases-fdes
decreases-fdes l = length l.rest
