use Rattle.std.proofs.Common.{◌≤◌, ◌-◌, [], length, vec_len, All}
use Rattle.eh_bytes.specs.Memory.{part_of}
use Rattle.frame_read.specs.SeenSpan.{spans_seen, IsInside}
use Rattle.frame_read.specs.SpanRest.{span_rest}
use Rattle.frame_read.proofs.OnWay.{OnWay}
use Rattle.frame_read.proofs.spans.spans_of.Given as goal

abbrev pub invariant-spans : goal.invariant-spans
invariant-spans l =
    (l.place ≤ vec_len l.segment.bytes) ×
    OnWay (span_rest (part_of l.segment) (spans_seen l.spans.items)) (length l.segment.bytes.items)
    (span_rest (part_of l.segment) [] (length l.segment.bytes.items) l.first) l.place ×
    All (IsInside (length l.segment.bytes.items)) l.spans.items

abbrev pub decreases-spans : goal.decreases-spans
decreases-spans l = vec_len l.segment.bytes - l.place
