use Rattle.std.proofs.Common.{length}
use Rattle.eh_bytes.specs.Memory.{memory_of}
use Rattle.lsda_read.specs.Demands.{AreCode, IsRising}
use Rattle.lsda_read.proofs.demands.are_code.Given as goal

abbrev pub invariant-pads : goal.invariant-pads
invariant-pads l = IsRising l.pads → IsRising l.rest × (AreCode (memory_of l.memory) l.start l.rest → AreCode (memory_of l.memory) l.start l.pads)

abbrev pub decreases-pads : goal.decreases-pads
decreases-pads l = length l.rest
