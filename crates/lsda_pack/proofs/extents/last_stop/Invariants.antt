use Rattle.std.proofs.Common.{◌≤◌, ◌-◌, length, vec_len}
use Rattle.eh_bytes.specs.Memory.{part_of}
use Rattle.frame_read.proofs.OnWay.{OnWay}
use Rattle.lsda_pack.specs.Extents.{stop_within}
use Rattle.lsda_pack.proofs.extents.last_stop.Given as goal

abbrev pub invariant-parts : goal.invariant-parts
invariant-parts l =
    (l.place ≤ length l.segment.bytes.items) ×
    OnWay (stop_within (part_of l.segment)) (length l.segment.bytes.items)
    (stop_within (part_of l.segment) (length l.segment.bytes.items) l.first) l.place

abbrev pub decreases-parts : goal.decreases-parts
decreases-parts l = vec_len l.segment.bytes - l.place
