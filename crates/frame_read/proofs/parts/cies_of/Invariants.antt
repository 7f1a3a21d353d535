use Rattle.std.proofs.Common.{◌≡◌, ◌++◌, All, length}
use Rattle.eh_bytes.specs.Memory.{part_of}
use Rattle.table_forms.specs.Parts.{cies_of}
use Rattle.frame_read.specs.SeenSpan.{spans_seen, IsInside}
use Rattle.frame_read.specs.SeenPart.{entries_seen}
use Rattle.frame_read.proofs.parts.cies_of.Given as goal

abbrev pub invariant-spans : goal.invariant-spans
invariant-spans l =
    All (IsInside (length l.segment.bytes.items)) l.rest ×
    (entries_seen (part_of l.segment) l.entries.items ++ cies_of (part_of l.segment) (spans_seen l.rest) ≡ cies_of (part_of l.segment) (spans_seen l.spans))

abbrev pub decreases-spans : goal.decreases-spans
decreases-spans l = length l.rest
