use Rattle.std.proofs.Common.{◌≡◌, ◌++◌, length}
use Rattle.eh_bytes.specs.Memory.{memory_of}
use Rattle.image_doubts.specs.Starts.{marks_from, marks_of}
use Rattle.image_doubts.proofs.start.marks_of.Given as goal

abbrev pub invariant-bytes : goal.invariant-bytes
invariant-bytes l = marks_of (memory_of l.memory) l.fn.region ≡ l.marks.items ++ marks_from l.behind l.rest

abbrev pub decreases-bytes : goal.decreases-bytes
decreases-bytes l = length l.rest
