use Rattle.std.proofs.Common.{◌≡◌, All, length}
use Rattle.eh_bytes.specs.Memory.{part_of}
use Rattle.frame_read.specs.SeenSpan.{spans_seen, IsInside}
use Rattle.frame_read.specs.SeenPart.{entries_seen}
use Rattle.frame_read.specs.SeenParts.{parts_seen}
use Rattle.frame_read.specs.Gathered.{nothing, gathered}
use Rattle.frame_read.proofs.parts.parts_of.Given as goal

abbrev pub invariant-spans : goal.invariant-spans
invariant-spans l =
    All (IsInside (length l.segment.bytes.items)) l.rest ×
    (gathered (part_of l.segment) (entries_seen (part_of l.segment) l.entries) (parts_seen l.parts) (spans_seen l.rest) ≡
    gathered (part_of l.segment) (entries_seen (part_of l.segment) l.entries) nothing (spans_seen l.spans))

abbrev pub decreases-spans : goal.decreases-spans
decreases-spans l = length l.rest
