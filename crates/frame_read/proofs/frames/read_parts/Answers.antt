use Rattle.std.proofs.Common.{sym}
use Rattle.eh_bytes.specs.Memory.{part_of}
use Rattle.frame_read.proofs.InRange.{found_in_range}
use Rattle.frame_read.proofs.frames.read_parts.Goals as goal

pub parts_from-requires-clause-range : goal.parts_from-requires-clause-range
parts_from-requires-clause-range c =
    (found_in_range c.args.memory.now.parts.items c.args.address (part_of c.in-Some.segment.now) c.args.memory.now.in_range (sym c.in-Some.ensures.with)).1

pub parts_from-requires-clause-extent : goal.parts_from-requires-clause-extent
parts_from-requires-clause-extent c =
    (found_in_range c.args.memory.now.parts.items c.args.address (part_of c.in-Some.segment.now) c.args.memory.now.in_range (sym c.in-Some.ensures.with)).0
